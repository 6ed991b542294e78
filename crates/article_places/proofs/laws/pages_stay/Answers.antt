use Rattle.article_places.proofs.PageStay.{plain_stays, first_stays}
use Rattle.article_places.proofs.LastStay.{last_stays}
use Rattle.article_places.proofs.laws.pages_stay.Goals as goal

pub returns-clause-plain : goal.returns-clause-plain
returns-clause-plain c = plain_stays

pub returns-clause-first : goal.returns-clause-first
returns-clause-first c = first_stays

pub returns-clause-last : goal.returns-clause-last
returns-clause-last c = last_stays
