-- What has been written, with what is still to write, is the whole.
use Rattle.std.proofs.Common.{◌≡◌, ◌++◌, string_bytes}
use Rattle.std.specs.Str.Iter.{chars_rest}
use Rattle.rule_parser.specs.Statements.{escaped}
use Rattle.rule_parser.proofs.spelling.push_escaped.Given as goal

abbrev pub invariant-loop-c : goal.invariant-loop-c
invariant-loop-c l = string_bytes l.out ++ escaped (chars_rest l.c-iterator) ≡ string_bytes l.fn.out ++ escaped l.text
