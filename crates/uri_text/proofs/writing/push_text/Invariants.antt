use Rattle.std.proofs.Common.{◌≡◌, ◌+◌, ◌++◌, length, string_bytes, string_len, string_capacity, vec_len, vec_capacity}
use Rattle.text_model.specs.Writing.{written}
use Rattle.uri_text.proofs.writing.push_text.Given as goal

-- what has been written, with what is still to write, is the whole
abbrev pub invariant-loop-rest : goal.invariant-loop-rest
invariant-loop-rest l = record {
  items : l.bytes.items ++ written l.writing l.rest ≡ string_bytes l.fn.out ++ written l.writing l.text;
  len : vec_len l.bytes + length (written l.writing l.rest) ≡ string_len l.fn.out + length (written l.writing l.text);
  capacity : vec_capacity l.bytes ≡ string_capacity l.fn.out;
}

abbrev pub decreases-loop-rest : goal.decreases-loop-rest
decreases-loop-rest l = length l.rest
