use Rattle.std.proofs.Common.{◌≡◌, drop}
use Rattle.openurl_reading.specs.Retractions as spec
use Rattle.openurl_reading.proofs.retractions.is_retracted.Given as goal

abbrev pub invariant-loop-pair : goal.invariant-loop-pair
invariant-loop-pair l = spec.is_retracted (drop l.pair-index l.pair-items) ≡ spec.is_retracted l.pair-items
