use Rattle.std.proofs.Common.{arith}
use Rattle.text_model.proofs.Written.{length-written_ur}
use Rattle.uri_grammar.proofs.literals.written.Goals as goal

pub encode_ur-requires : goal.encode_ur-requires
encode_ur-requires c = record {
  room = omega (arith, length-written_ur c.as_bytes.result.now, c.as_bytes.ensures.len, c.in_ok-written.ensures.len, c.in_ok-written.ensures.capacity);
}
