use Rattle.std.proofs.Common.{◌≡◌, drop}
use Rattle.latex_text.specs.Commands.{is_plain}
use Rattle.latex_text.proofs.commands.is_plain.Given as goal

abbrev pub invariant-loop-byte : goal.invariant-loop-byte
invariant-loop-byte l = is_plain (drop l.byte-index l.text) ≡ is_plain l.text
