use Rattle.request_encodings.proofs.Decoding.{texts_short, texts_ascii_short}
use Rattle.request_encodings.proofs.laws.texts_are_bounded.Goals as goal

pub returns-clause-all : goal.returns-clause-all
returns-clause-all c = texts_short

pub returns-clause-ascii : goal.returns-clause-ascii
returns-clause-ascii c = texts_ascii_short
