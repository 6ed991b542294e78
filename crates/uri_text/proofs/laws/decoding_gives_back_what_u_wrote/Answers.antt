use Rattle.uri_text.proofs.Decoded.{decoded_u}
use Rattle.uri_text.proofs.laws.decoding_gives_back_what_u_wrote.Goals as goal

pub returns : goal.returns
returns c = decoded_u
