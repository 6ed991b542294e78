use Rattle.written_texts.proofs.Settling.{is_filled}
use Rattle.written_texts.proofs.laws.texts_are_not_blank.Goals as goal

pub returns : goal.returns
returns c = is_filled
