use Rattle.std.proofs.Common.{arith, append-nil}
use Rattle.kev_read.proofs.DecodedForms.{decoded_nothing}
use Rattle.kev_read.proofs.decoding.append_decoded.Goals as goal

pub returns : goal.returns
returns c = grind (arith, decoded_nothing, c.is_empty.ensures, c.loop-rest-test.false, append-nil)
