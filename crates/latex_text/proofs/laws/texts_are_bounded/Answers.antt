use Rattle.latex_text.proofs.Reading.{short, is_utf8}
use Rattle.latex_text.proofs.laws.texts_are_bounded.Goals as goal

pub returns-clause-bounded : goal.returns-clause-bounded
returns-clause-bounded c = short

pub returns-clause-utf8 : goal.returns-clause-utf8
returns-clause-utf8 c = is_utf8
