use Rattle.source_queries.proofs.Readings.{settled_stays, form_stays}
use Rattle.source_queries.proofs.laws.utf8_queries_stay.Goals as goal

pub returns-clause-settled : goal.returns-clause-settled
returns-clause-settled c = settled_stays c.settled_queries_stay.ensures.settled

pub returns-clause-forms : goal.returns-clause-forms
returns-clause-forms c = form_stays c.settled_queries_stay.ensures.forms
