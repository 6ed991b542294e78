use Rattle.std.proofs.Common.{◌≡◌, ◌≤◌, ◌+◌, ◌*◌, drop}
use Rattle.standard_numbers.specs.CheckDigits as spec
use Rattle.standard_numbers.proofs.check_digits.alternating.Given as goal

abbrev pub invariant-loop-byte : goal.invariant-loop-byte
invariant-loop-byte l =
    (l.sum + spec.alternating l.weight (drop l.byte-index l.digits) ≡ spec.alternating 1 l.digits)
    × (l.sum ≤ 621 * l.byte-index) × (1 ≤ l.weight) × (l.weight ≤ 3)
