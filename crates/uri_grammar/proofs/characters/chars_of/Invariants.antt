use Rattle.std.proofs.Common.{◌≡◌, ◌++◌, encode_utf8_all}
use Rattle.std.specs.Str.Iter.{chars_rest}
use Rattle.uri_grammar.proofs.characters.chars_of.Given as goal

abbrev pub invariant-loop-c : goal.invariant-loop-c
invariant-loop-c l = l.text ≡ encode_utf8_all l.chars.items ++ chars_rest l.c-iterator
