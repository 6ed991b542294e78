use Rattle.source_answers.proofs.ShownTexts.{same}
use Rattle.source_answers.proofs.laws.other_texts_are_shown_as_they_are.Goals as goal

pub returns : goal.returns
returns c = same
