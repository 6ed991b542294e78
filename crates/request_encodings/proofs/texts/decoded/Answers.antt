use Rattle.std.proofs.Common.{arith}
use Rattle.std.proofs.lemmas.Grind.{common_steps}
use Rattle.request_encodings.proofs.Decoding.{decoded_more}
use Rattle.request_encodings.proofs.texts.decoded.Goals as goal

pub loop-byte-preserved : goal.loop-byte-preserved
loop-byte-preserved c =
    let more = decoded_more c.args.encoding c.args.bytes.now c.loop-byte.byte-index c.loop-byte-test.true in
    grind (arith, common_steps, more, c.in_ok-push.ensures.bytes, c.character.ensures, c.loop-byte.invariant)
