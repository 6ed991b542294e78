use Rattle.publication_dates.proofs.DaysOfDates.{first_is, last_is_of}
use Rattle.publication_dates.proofs.laws.days_are_days.Goals as goal

pub returns-clause-first : goal.returns-clause-first
returns-clause-first c = first_is

pub returns-clause-last : goal.returns-clause-last
returns-clause-last c = last_is_of
