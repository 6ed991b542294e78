use Rattle.std.proofs.Common.{◌≡◌, rules, sym, true≢false}
use Rattle.verifier.specs.declared.error.LoadError.TheVariants.{NoMemory}
use Rattle.answers.specs.Reading.{IsNotAccepted}
use Rattle.answers.proofs.RefusalLemmas.{is_file}
use Rattle.answers.proofs.reading.accepted_code.Goals as goal

pub returns-in-Err-clause-err : goal.returns-in-Err-clause-err
returns-in-Err-clause-err c =
    let same : c.in-Err.e ≡ NoMemory = search rules in
    let file = is_file _ _ c.in-Err.ensures.refused same in
    IsNotAccepted.no_memory file.0 file.1

pub returns-in-Err-2-clause-err : goal.returns-in-Err-2-clause-err
returns-in-Err-2-clause-err c = IsNotAccepted.refused _ c.in-Err.ensures.refused (λ same. true≢false (sym (rw same at c.if-eq.ensures)))
