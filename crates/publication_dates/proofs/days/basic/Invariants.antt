use Rattle.std.proofs.Common.{◌≡◌, ◌++◌, drop}
use Rattle.publication_dates.specs.Days.{basic}
use Rattle.publication_dates.proofs.days.basic.Given as goal

abbrev pub invariant-loop-byte : goal.invariant-loop-byte
invariant-loop-byte l = l.digits.items ++ basic (drop l.byte-index l.date) ≡ basic l.date
