use Rattle.std.proofs.Common.{◌≡◌, drop}
use Rattle.latex_text.specs.Places.{has}
use Rattle.latex_text.proofs.texts.has.Given as goal

abbrev pub invariant-loop-byte : goal.invariant-loop-byte
invariant-loop-byte l = has l.mark (drop l.byte-index l.text) ≡ has l.mark l.text
