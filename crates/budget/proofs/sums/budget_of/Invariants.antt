use Rattle.std.proofs.Common.{◌≡◌}
use Rattle.budget.specs.Private.Running.{running_at}
use Rattle.budget.specs.Private.SumsBelow.{sums_below}
use Rattle.budget.proofs.sums.budget_of.Given as goal

abbrev pub invariant-loop-place : goal.invariant-loop-place
invariant-loop-place l = record {
  sums : l.budget ≡ sums_below l.code l.place;
  running : l.running ≡ running_at l.code l.place;
}
