use Rattle.uri_text.proofs.Decoded.{decoded_ur}
use Rattle.uri_text.proofs.laws.decoding_does_not_see_what_ur_wrote.Goals as goal

pub returns : goal.returns
returns c = decoded_ur
