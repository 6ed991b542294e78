use Rattle.verifier.proofs.Faultless.{has_no_fault}
use Rattle.verifier.proofs.laws.accepted_file_has_no_fault.Goals as goal

pub returns : goal.returns
returns c = λ bytes code file form typable.
    has_no_fault
    (record {
      no_fault = c.file_has_no_fault.ensures;
      one_code = c.file_has_one_code.ensures;
      form = c.form_is_decided.ensures;
      untypable = c.mismatch_is_exact.ensures.untypable;
    })
    bytes code file form typable
