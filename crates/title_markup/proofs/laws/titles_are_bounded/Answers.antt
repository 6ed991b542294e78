use Rattle.title_markup.proofs.Reading.{short, is_utf8}
use Rattle.title_markup.proofs.laws.titles_are_bounded.Goals as goal

pub returns-clause-bounded : goal.returns-clause-bounded
returns-clause-bounded c = short

pub returns-clause-utf8 : goal.returns-clause-utf8
returns-clause-utf8 c = is_utf8
