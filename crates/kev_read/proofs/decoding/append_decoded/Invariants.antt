use Rattle.std.proofs.Common.{◌≡◌, ◌+◌, ◌≤◌, ◌++◌, length, vec_len, vec_capacity}
use Rattle.form_urlencoded.specs.Form as form
use Rattle.kev_read.proofs.decoding.append_decoded.Given as goal

-- what has been decoded, with what is still to decode, is the whole, and there is capacity for it
abbrev pub invariant-loop-rest : goal.invariant-loop-rest
invariant-loop-rest l = record {
  items : l.bytes.items ++ form.decode l.rest ≡ l.fn.out.items ++ form.decode l.input;
  room : vec_len l.bytes + length l.rest ≤ vec_capacity l.bytes;
}

abbrev pub decreases-loop-rest : goal.decreases-loop-rest
decreases-loop-rest l = length l.rest
