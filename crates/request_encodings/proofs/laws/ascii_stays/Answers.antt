use Rattle.request_encodings.proofs.Decoding.{ascii_same}
use Rattle.request_encodings.proofs.laws.ascii_stays.Goals as goal

pub returns : goal.returns
returns c = ascii_same
