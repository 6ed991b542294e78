use Rattle.std.proofs.Common.{◌≡◌, drop}
use Rattle.title_markup.specs.Titles.{is_blank}
use Rattle.title_markup.proofs.titles.is_blank.Given as goal

abbrev pub invariant-loop-byte : goal.invariant-loop-byte
invariant-loop-byte l = is_blank (drop l.byte-index l.text) ≡ is_blank l.text
