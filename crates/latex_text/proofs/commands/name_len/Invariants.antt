use Rattle.std.proofs.Common.{◌≡◌, ◌+◌, drop}
use Rattle.latex_text.specs.Commands.{name_length}
use Rattle.latex_text.proofs.commands.name_len.Given as goal

abbrev pub invariant-loop-at : goal.invariant-loop-at
invariant-loop-at l = l.at + name_length (drop l.at l.text) ≡ name_length l.text
