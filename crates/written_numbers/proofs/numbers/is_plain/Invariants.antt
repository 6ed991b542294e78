use Rattle.std.proofs.Common.{◌≡◌, true, length}
use Rattle.written_numbers.specs.Numbers as spec
use Rattle.written_numbers.proofs.numbers.is_plain.Given as goal

abbrev pub invariant-loop-rest : goal.invariant-loop-rest
invariant-loop-rest l = spec.is_plain_after l.is_gap l.rest ≡ spec.is_plain_after true l.text

abbrev pub decreases-loop-rest : goal.decreases-loop-rest
decreases-loop-rest l = length l.rest
