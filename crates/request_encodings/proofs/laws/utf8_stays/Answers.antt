use Rattle.request_encodings.proofs.Decoding.{utf8_same}
use Rattle.request_encodings.proofs.laws.utf8_stays.Goals as goal

pub returns : goal.returns
returns c = utf8_same
