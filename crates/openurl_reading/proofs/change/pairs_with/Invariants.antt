use Rattle.std.proofs.Common.{◌≡◌}
use Rattle.openurl_reading.specs.Steps as spec
use Rattle.openurl_reading.proofs.change.pairs_with.Given as goal

abbrev pub invariant-loop-value : goal.invariant-loop-value
invariant-loop-value l = l.list.items ≡ spec.pairs_with l.key l.yielded
