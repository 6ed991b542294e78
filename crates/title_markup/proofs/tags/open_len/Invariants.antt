use Rattle.std.proofs.Common.{◌≡◌, ◌+◌, drop}
use Rattle.std.specs.Prelude.{◌==◌, not}
use Rattle.std.specs.List.{prefix_len}
use Rattle.title_markup.specs.Endings.{closing}
use Rattle.title_markup.proofs.tags.open_len.Given as goal

abbrev pub invariant-loop-at : goal.invariant-loop-at
invariant-loop-at l = l.at + prefix_len (λ b. not (b == closing)) (drop l.at l.text) ≡ prefix_len (λ b. not (b == closing)) l.text
