use Rattle.article_places.proofs.NumberLaws.{plain_stays, first_stays, issue_stays}
use Rattle.article_places.proofs.laws.numbers_stay.Goals as goal

pub returns-clause-plain : goal.returns-clause-plain
returns-clause-plain c = plain_stays

pub returns-clause-first : goal.returns-clause-first
returns-clause-first c = first_stays

pub returns-clause-issue : goal.returns-clause-issue
returns-clause-issue c = issue_stays
