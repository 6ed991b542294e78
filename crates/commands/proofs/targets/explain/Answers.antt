use Rattle.std.proofs.Common.{refl}
use Rattle.answers.proofs.RefusalLemmas.{is_err}
use Rattle.commands.specs.Explaining.{no_target, no_table, explains}
use Rattle.commands.proofs.targets.explain.Goals as goal

pub returns-in_err-rules-clause-ends : goal.returns-in_err-rules-clause-ends
returns-in_err-rules-clause-ends g c =
    rw (is_err _ _ c.from_residual.ensures.1) (no_target _ c.in_err-rules.ensures.err (refl {a = c.args.output.now}))

pub returns-in_err-table-clause-ends : goal.returns-in_err-table-clause-ends
returns-in_err-table-clause-ends g c =
    rw (is_err _ _ c.from_residual-in_err-table.ensures.1)
    (no_table _ _ _ _ c.in_ok-rules.ensures.ok (rw c.deref.ensures.value at c.in_err-table.ensures.err) (refl {a = c.args.output.now}))

pub returns-clause-ends : goal.returns-clause-ends
returns-clause-ends g c =
    explains _ _ c.in_ok-table.table _ (rw c.in_ok-table.ensures.keyed c.in_ok-rules.ensures.ok)
    (rw c.deref.ensures.value at c.in_ok-table.ensures.ok) c.explain_query.ensures
