use Rattle.title_markup.proofs.Words.{spaces_short, spaces_utf8, spaces_filled}
use Rattle.title_markup.proofs.laws.spaces_are_bounded.Goals as goal

pub returns-clause-bounded : goal.returns-clause-bounded
returns-clause-bounded c = spaces_short

pub returns-clause-utf8 : goal.returns-clause-utf8
returns-clause-utf8 c = spaces_utf8

pub returns-clause-filled : goal.returns-clause-filled
returns-clause-filled c = spaces_filled
