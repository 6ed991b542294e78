use Rattle.written_texts.proofs.Settling.{is_short}
use Rattle.written_texts.proofs.laws.texts_are_bounded.Goals as goal

pub returns : goal.returns
returns c = is_short
