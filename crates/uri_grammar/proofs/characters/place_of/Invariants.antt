use Rattle.std.proofs.Common.{take}
use Rattle.uri_grammar.specs.Specs.{Lacks}
use Rattle.uri_grammar.proofs.characters.place_of.Given as goal

abbrev pub invariant-loop-i : goal.invariant-loop-i
invariant-loop-i l = Lacks l.sought (take l.i l.text)
