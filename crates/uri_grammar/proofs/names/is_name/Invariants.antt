use Rattle.std.proofs.Common.{◌≡◌, length, take}
use Rattle.uri_grammar.proofs.names.is_name.Given as goal

-- the bytes so far are in the buffer
abbrev pub invariant-loop-i : goal.invariant-loop-i
invariant-loop-i l = record {
  room : length l.chars ≡ 255;
  copied : take l.i l.chars ≡ take l.i l.bytes;
}
