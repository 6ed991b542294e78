use Rattle.request_encodings.proofs.Decoding.{texts_utf8}
use Rattle.request_encodings.proofs.laws.texts_are_utf8.Goals as goal

pub returns : goal.returns
returns c = texts_utf8
