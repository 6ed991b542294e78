use Rattle.title_markup.proofs.Words.{plain_stays, plain_short, plain_utf8, plain_filled}
use Rattle.title_markup.proofs.laws.plain_titles_are_bounded.Goals as goal

pub returns-clause-stays : goal.returns-clause-stays
returns-clause-stays c = plain_stays

pub returns-clause-bounded : goal.returns-clause-bounded
returns-clause-bounded c = plain_short

pub returns-clause-utf8 : goal.returns-clause-utf8
returns-clause-utf8 c = plain_utf8

pub returns-clause-filled : goal.returns-clause-filled
returns-clause-filled c = plain_filled
