use Rattle.std.proofs.Common.{◌≡◌, drop, []}
use Rattle.title_markup.specs.Titles as spec
use Rattle.title_markup.proofs.titles.read.Given as goal

abbrev pub invariant-loop-byte : goal.invariant-loop-byte
invariant-loop-byte l = spec.read_after l.text.items (drop l.byte-index l.title) ≡ spec.read_after [] l.title
