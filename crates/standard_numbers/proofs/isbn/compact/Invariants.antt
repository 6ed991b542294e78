use Rattle.std.proofs.Common.{◌≡◌, ◌++◌, drop}
use Rattle.standard_numbers.specs.Isbn.{compact}
use Rattle.standard_numbers.proofs.isbn.compact.Given as goal

abbrev pub invariant-loop-byte : goal.invariant-loop-byte
invariant-loop-byte l = l.digits.items ++ compact (drop l.byte-index l.spelling) ≡ compact l.spelling
