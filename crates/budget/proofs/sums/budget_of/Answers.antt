use Rattle.std.proofs.Common.{sym, subst, arith}
use Rattle.budget.specs.Small.{IsSmall}
use Rattle.budget.proofs.Walk.{running_first}
use Rattle.budget.proofs.Totals.{no_sums}
use Rattle.budget.proofs.Limits.{small_below}
use Rattle.budget.proofs.sums.budget_of.Goals as goal

pub loop-place-init : goal.loop-place-init
loop-place-init c = record { sums = no_sums c.args.code.now; running = running_first c.args.code.now }

pub returns-clause-small : goal.returns-clause-small
returns-clause-small c =
    subst IsSmall (sym c.loop-place.invariant.sums) (small_below c.args.code.now c.len-places.ensures.is_code c.loop-place.place (omega arith))
