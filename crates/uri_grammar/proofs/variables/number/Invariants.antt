use Rattle.uri_grammar.proofs.NumberLemmas.{HasRead}
use Rattle.uri_grammar.proofs.variables.number.Given as goal

abbrev pub invariant-loop-c : goal.invariant-loop-c
invariant-loop-c l = HasRead l.digits l.c-index l.number
