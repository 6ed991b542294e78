use Rattle.std.proofs.Common.{◌≡◌, ◌-◌, length}
use Rattle.journal_references.specs.References as spec
use Rattle.journal_references.proofs.places.first_place.Given as goal

abbrev pub invariant-loop-count : goal.invariant-loop-count
invariant-loop-count l =
    spec.first_reference l.text l.count (length l.text - l.count) ≡ spec.first_reference l.text 0 (length l.text)
