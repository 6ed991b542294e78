use Rattle.std.proofs.Common.{sym, ap, ◌∙◌, subst}
use Rattle.std.proofs.lemmas.Result.{err_from_is_err_and}
use Rattle.machine_model.specs.Typable.{IsLeast}
use Rattle.verifier.specs.Private.Checks.{located_of}
use Rattle.verifier.specs.Faults.{IsCodeRefusal}
use Rattle.verifier.specs.Private.Rows.{table_of}
use Rattle.verifier.proofs.Loads.{form_refused, kinds_refused}
use Rattle.verifier.proofs.loading.check.Goals as goal

pub returns-in_err-layout-clause-refused : goal.returns-in_err-layout-clause-refused
returns-in_err-layout-clause-refused c = let p = err_from_is_err_and c.from_residual.result c.from_residual.ensures.1 in rw (p.1, p.2) IsCodeRefusal.no_memory

pub returns-in_err-table-clause-refused : goal.returns-in_err-table-clause-refused
returns-in_err-table-clause-refused c = let p = err_from_is_err_and c.from_residual-in_err-table.result c.from_residual-in_err-table.ensures.1 in
    rw (p.1, p.2) IsCodeRefusal.no_memory

pub returns-in_err-instructions-clause-refused : goal.returns-in_err-instructions-clause-refused
returns-in_err-instructions-clause-refused c = let p =
    err_from_is_err_and c.from_residual-in_err-instructions.result c.from_residual-in_err-instructions.ensures.1 in rw (p.1, p.2) IsCodeRefusal.no_memory

pub returns-in-Some-clause-refused : goal.returns-in-Some-clause-refused
returns-in-Some-clause-refused c = form_refused c.args.code.now c.in_ok-layout.layout.code.now c.first_fault.result c.in-Some.found c.of_form.result
    c.in_ok-layout.ensures c.first_fault.ensures c.in-Some.is c.of_form.ensures

pub returns-in-Some-first_mismatch-clause-refused : goal.returns-in-Some-first_mismatch-clause-refused
returns-in-Some-first_mismatch-clause-refused c =
    let d = c.in_ok-layout.layout.code.now in
    let good = (c.form_is_decided.ensures d).1 (sym c.first_fault.ensures ∙ ap located_of c.in_default.is) in
    let least = subst (λ rows. IsLeast d (table_of rows)) (sym c.deref.ensures.value) c.in_ok-table.ensures.least in
    kinds_refused c.args.code.now d c.first_mismatch.result c.in-Some-first_mismatch.found (table_of c.deref.result.now) c.in_ok-layout.ensures good least
    c.first_mismatch.ensures c.in-Some-first_mismatch.is
