use Rattle.title_markup.proofs.Reading.{free_stays, unmarked_stays}
use Rattle.title_markup.proofs.laws.plain_titles_stay.Goals as goal

pub returns-clause-free : goal.returns-clause-free
returns-clause-free c = free_stays

pub returns-clause-unmarked : goal.returns-clause-unmarked
returns-clause-unmarked c = unmarked_stays
