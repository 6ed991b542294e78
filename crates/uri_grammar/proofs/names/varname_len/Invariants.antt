use Rattle.std.proofs.Common.{◌≡◌, length, ◌+◌, ◌-◌, ◌≤◌, ◌<◌, take, drop}
use Rattle.uri_grammar.specs.Names.{IsVarname}
use Rattle.uri_grammar.specs.Private.Lengths.{next_len}
use Rattle.uri_grammar.proofs.names.varname_len.Given as goal

abbrev pub invariant-loop-more : goal.invariant-loop-more
invariant-loop-more l = record {
  within : l.len + l.more ≤ length l.text;
  some : 0 < l.len;
  name : IsVarname (take l.len l.text);
  next : l.more ≡ next_len (drop l.len l.text);
}

abbrev pub decreases-loop-more : goal.decreases-loop-more
decreases-loop-more l = length l.text - l.len
