use Rattle.std.proofs.Common.{◌≢◌, ◌-◌, length, drop}
use Rattle.target_vars.proofs.names.forks.first_difference.Given as goal

-- the names differ in what is left of them
abbrev pub invariant-loop-at : goal.invariant-loop-at
invariant-loop-at l = drop l.at l.name ≢ drop l.at l.other

abbrev pub decreases-loop-at : goal.decreases-loop-at
decreases-loop-at l = length l.name - l.at
