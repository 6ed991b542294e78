use Rattle.std.proofs.Common.{length, ◌+◌, ◌-◌, ◌≤◌, ◌++◌, [], ◌∷◌, take}
use Rattle.uri_grammar.specs.Characters.{comma}
use Rattle.uri_grammar.specs.Specs.{SpellsSpecs}
use Rattle.uri_grammar.proofs.expressions.variable_list.Given as goal

-- what was read is the text of the specs so far, each with its comma
abbrev pub invariant-loop-done : goal.invariant-loop-done
invariant-loop-done l = record {
  within : l.done ≤ length l.list + 1;
  spelled : SpellsSpecs (take l.done (l.list ++ comma ∷ [])) l.specs.items;
}

abbrev pub decreases-loop-done : goal.decreases-loop-done
decreases-loop-done l = length l.list + 1 - l.done
