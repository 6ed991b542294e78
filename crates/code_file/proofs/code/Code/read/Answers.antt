use Rattle.std.proofs.Common.{arith, inr}
use Rattle.std.proofs.lemmas.Result.{err_from_is_err_and}
use Rattle.code_file.proofs.FileLemmas.{code_of_tables}
use Rattle.code_file.proofs.code.Code.read.Goals as goal

pub returns-in_err-names-clause-refused : goal.returns-in_err-names-clause-refused
returns-in_err-names-clause-refused c =
    let p = err_from_is_err_and c.from_residual-in_err-names.result c.from_residual-in_err-names.ensures.1 in
    rw p.1 (inr (
      p.2,
      code_of_tables c.args.bytes.now _ _ _ _ c.in_ok-tables.ensures.good c.in_ok-tables.ensures.short
          (λ i. omega (arith, c.type_inv.bytes i)),
    ))

pub returns-in_err-literals-clause-refused : goal.returns-in_err-literals-clause-refused
returns-in_err-literals-clause-refused c =
    let p = err_from_is_err_and c.from_residual-in_err-literals.result c.from_residual-in_err-literals.ensures.1 in
    rw p.1 (inr (
      p.2,
      code_of_tables c.args.bytes.now _ _ _ _ c.in_ok-tables.ensures.good c.in_ok-tables.ensures.short
          (λ i. omega (arith, c.type_inv.bytes i)),
    ))

pub returns-in_err-instrs-clause-refused : goal.returns-in_err-instrs-clause-refused
returns-in_err-instrs-clause-refused c =
    let p = err_from_is_err_and c.from_residual-in_err-instrs.result c.from_residual-in_err-instrs.ensures.1 in
    rw p.1 (inr (
      p.2,
      code_of_tables c.args.bytes.now _ _ _ _ c.in_ok-tables.ensures.good c.in_ok-tables.ensures.short
          (λ i. omega (arith, c.type_inv.bytes i)),
    ))
