-- What is said of the parts from one place on.
use Rattle.std.proofs.Common.{◌≡◌, ◌+◌, ◌≤◌, length}
use Rattle.rule_lint.specs.Private.Ends.{AreEnds}
use Rattle.rule_lint.proofs.host.ends_before_each.Given as goal

abbrev pub invariant-loop-k : goal.invariant-loop-k
invariant-loop-k l = record {
  within : l.k ≤ length l.parts;
  count : length l.ends.items ≡ length l.parts + 1;
  ends : AreEnds l.ends.items l.parts l.k;
}

abbrev pub decreases-loop-k : goal.decreases-loop-k
decreases-loop-k l = l.k
