use Rattle.std.proofs.Common.{◌≡◌, ◌+◌, drop}
use Rattle.title_markup.specs.Tags.{name_length}
use Rattle.title_markup.proofs.tags.name_len.Given as goal

abbrev pub invariant-loop-at : goal.invariant-loop-at
invariant-loop-at l = l.at + name_length (drop l.at l.text) ≡ name_length l.text
