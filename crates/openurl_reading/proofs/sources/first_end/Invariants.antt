use Rattle.std.proofs.Common.{◌≡◌, ◌-◌, length}
use Rattle.openurl_reading.specs.Sources as spec
use Rattle.openurl_reading.proofs.sources.first_end.Given as goal

abbrev pub invariant-loop-count : goal.invariant-loop-count
invariant-loop-count l =
    spec.first_end l.text l.count (length l.text - l.count) ≡ spec.first_end l.text 0 (length l.text)
