use Rattle.std.proofs.Common.{◌≡◌, drop}
use Rattle.standard_numbers.specs.Spellings as spec
use Rattle.standard_numbers.proofs.spellings.are_digits.Given as goal

abbrev pub invariant-loop-byte : goal.invariant-loop-byte
invariant-loop-byte l = spec.are_digits l.left (drop l.byte-index l.bytes) ≡ spec.are_digits l.count l.bytes
