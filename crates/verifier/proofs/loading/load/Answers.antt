use Rattle.std.proofs.Common.{subst, sym}
use Rattle.std.proofs.lemmas.Result.{err_from_is_err_and}
use Rattle.code_file.specs.Grammar.{IsCodeFile}
use Rattle.machine_model.specs.Form.{HasGoodForm}
use Rattle.machine_model.specs.Typable.{IsTypable}
use Rattle.verifier.specs.Accepted.{IsAcceptedFile}
use Rattle.verifier.specs.Faults.{IsLoadFault}
use Rattle.verifier.proofs.Loads.{read_refused, code_refused, exact, file_code}
use Rattle.verifier.proofs.loading.load.Goals as goal

pub returns-in_err-code-clause-refused : goal.returns-in_err-code-clause-refused
returns-in_err-code-clause-refused c = let p = err_from_is_err_and c.from_residual.result c.from_residual.ensures.1 in
    rw (p.1, p.2) (read_refused c.args.bytes.now _ c.in_err-code.ensures.refused)

pub returns-in_err-instructions-clause-refused : goal.returns-in_err-instructions-clause-refused
returns-in_err-instructions-clause-refused c = let p =
    err_from_is_err_and c.from_residual-in_err-instructions.result c.from_residual-in_err-instructions.ensures.1 in
    rw (p.1, p.2) (code_refused c.args.bytes.now c.in_ok-code.code _ c.in_ok-code.ensures.code c.in_err-instructions.ensures.refused)

pub returns-in_err-instructions-clause-exact : goal.returns-in_err-instructions-clause-exact
returns-in_err-instructions-clause-exact c = let p =
    err_from_is_err_and c.from_residual-in_err-instructions.result c.from_residual-in_err-instructions.ensures.1 in
    rw (p.1, p.2) (exact c.file_has_one_code.ensures c.mismatch_is_exact.ensures.untypable c.args.bytes.now _
    (code_refused c.args.bytes.now c.in_ok-code.code _ c.in_ok-code.ensures.code c.in_err-instructions.ensures.refused))

pub returns-in_err-compared-clause-refused : goal.returns-in_err-compared-clause-refused
returns-in_err-compared-clause-refused c = let p = err_from_is_err_and c.from_residual-in_err-compared.result c.from_residual-in_err-compared.ensures.1 in
    rw (p.1, p.2) (IsLoadFault.no_memory c.in_ok-code.code c.in_ok-code.ensures.code)

pub returns-clause-accepted : goal.returns-clause-accepted
returns-clause-accepted c =
    let bytes = c.args.bytes.now in
    let code = c.in_ok-code.code in
    let file : IsCodeFile bytes code = c.in_ok-code.ensures.code in
    let form : HasGoodForm code = c.in_ok-instructions.ensures.form in
    let typable : IsTypable code = c.in_ok-instructions.ensures.typable in
    let is_file = file_code code file.is_code in
    subst (IsAcceptedFile bytes) (sym c.new.ensures)
    (record {
      is_file = file;
      accepted = record {
        is_code = file.is_code;
        form = form;
        typable = typable;
        file = is_file;
        safe = c.typable_code_is_safe.ensures code is_file form typable;
      };
      no_fault = c.accepted_file_has_no_fault.ensures bytes code file form typable;
    })

pub new-requires-clause-accepted : goal.new-requires-clause-accepted
new-requires-clause-accepted c =
    let code = c.in_ok-code.code in
    let is_code = c.in_ok-code.ensures.code.is_code in
    let file = file_code code is_code in
    let form = c.in_ok-instructions.ensures.form in
    let typable = c.in_ok-instructions.ensures.typable in
    record { is_code = is_code; form = form; typable = typable; file = file; safe = c.typable_code_is_safe.ensures code file form typable }
