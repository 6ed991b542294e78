use Rattle.request_encodings.proofs.Characters.{high}
use Rattle.request_encodings.proofs.laws.no_ascii_is_added.Goals as goal

pub returns : goal.returns
returns c = high
