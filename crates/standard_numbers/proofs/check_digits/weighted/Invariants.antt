use Rattle.std.proofs.Common.{◌≡◌, ◌≤◌, ◌+◌, ◌*◌, drop}
use Rattle.standard_numbers.specs.CheckDigits as spec
use Rattle.standard_numbers.proofs.check_digits.weighted.Given as goal

abbrev pub invariant-loop-byte : goal.invariant-loop-byte
invariant-loop-byte l =
    (l.sum + spec.weighted l.factor (drop l.byte-index l.digits) ≡ spec.weighted l.weight l.digits)
    × (l.sum ≤ 2070 * l.byte-index) × (l.factor ≤ 10)
