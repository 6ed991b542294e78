use Rattle.title_markup.proofs.Words.{single_stays, all_single, spaces_once}
use Rattle.title_markup.proofs.laws.spaces_are_single.Goals as goal

pub returns-clause-stays : goal.returns-clause-stays
returns-clause-stays c = single_stays

pub returns-clause-single : goal.returns-clause-single
returns-clause-single c = all_single

pub returns-clause-once : goal.returns-clause-once
returns-clause-once c = spaces_once
