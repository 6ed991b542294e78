-- What was read is the text so far in escaped form, and perhaps a backslash whose character comes next.
use Rattle.std.proofs.Common.{◌≡◌, ◌++◌}
use Rattle.std.specs.String.{string_bytes}
use Rattle.std.specs.Str.Iter.{chars_rest}
use Rattle.rule_parser.specs.Statements.{escaped}
use Rattle.rule_parser.proofs.EscapeLemmas.{waiting}
use Rattle.rule_parser.proofs.guard.unescaped.Given as goal

abbrev pub invariant-loop-c : goal.invariant-loop-c
invariant-loop-c l = l.escaped ≡ escaped (string_bytes l.text) ++ waiting l.is_escaped (chars_rest l.c-iterator)
