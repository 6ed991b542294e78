use Rattle.std.proofs.Common.{length, ◌≤◌, ◌<◌, ◌-◌, take, drop}
use Rattle.uri_grammar.specs.Private.Lengths.{literal_item_len}
use Rattle.uri_grammar.specs.Templates.{Spells}
use Rattle.uri_grammar.specs.Private.Reading.{EndsWithNoLiteral}
use Rattle.uri_grammar.proofs.template.read.Given as goal

-- what was read is the text of the parts so far, and a literal can only come after an expression
abbrev pub invariant-loop-done : goal.invariant-loop-done
invariant-loop-done l = record {
  within : l.done ≤ length l.chars;
  spelled : Spells (take l.done l.chars) l.parts.items;
  open_end : 0 < literal_item_len (drop l.done l.chars) → EndsWithNoLiteral l.parts.items;
}

abbrev pub decreases-loop-done : goal.decreases-loop-done
decreases-loop-done l = length l.chars - l.done
