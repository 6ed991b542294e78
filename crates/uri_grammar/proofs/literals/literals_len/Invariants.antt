use Rattle.std.proofs.Common.{◌≡◌, length, ◌+◌, ◌-◌, ◌≤◌, ◌<◌, take, drop}
use Rattle.uri_grammar.specs.Literals.{AreLiterals}
use Rattle.uri_grammar.specs.Private.Lengths.{literal_item_len}
use Rattle.uri_grammar.proofs.literals.literals_len.Given as goal

abbrev pub invariant-loop-more : goal.invariant-loop-more
invariant-loop-more l = record {
  within : l.len + l.more ≤ length l.text;
  literals : AreLiterals (take l.len l.text);
  first : 0 < l.len + l.more → 0 < literal_item_len l.text;
  next : l.more ≡ literal_item_len (drop l.len l.text);
}

abbrev pub decreases-loop-more : goal.decreases-loop-more
decreases-loop-more l = length l.text - l.len
