use Rattle.std.proofs.Common.{◌≡◌, ◌<◌, drop, false}
use Rattle.standard_numbers.specs.Isbn as spec
use Rattle.standard_numbers.proofs.isbn.digits_end.Given as goal

abbrev pub invariant-loop-read : goal.invariant-loop-read
invariant-loop-read l =
    (spec.digits_end l.tens l.read l.left l.may_join (drop l.read l.text) ≡ spec.digits_end l.tens 0 l.count false l.text) × (0 < l.left)
