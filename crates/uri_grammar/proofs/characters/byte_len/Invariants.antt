use Rattle.std.proofs.Common.{◌≡◌, length, take, encode_utf8_all}
use Rattle.uri_grammar.proofs.characters.byte_len.Given as goal

abbrev pub invariant-loop-c : goal.invariant-loop-c
invariant-loop-c l = l.len ≡ length (encode_utf8_all (take l.c-index l.chars))
