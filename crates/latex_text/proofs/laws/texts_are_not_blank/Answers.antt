use Rattle.latex_text.proofs.Reading.{is_filled}
use Rattle.latex_text.proofs.laws.texts_are_not_blank.Goals as goal

pub returns : goal.returns
returns c = is_filled
