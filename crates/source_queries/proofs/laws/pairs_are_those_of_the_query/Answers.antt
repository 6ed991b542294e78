use Rattle.source_queries.proofs.Readings.{source_number, source_written}
use Rattle.source_queries.proofs.laws.pairs_are_those_of_the_query.Goals as goal

pub returns-clause-number : goal.returns-clause-number
returns-clause-number c = source_number c.texts_are_utf8.ensures

pub returns-clause-written : goal.returns-clause-written
returns-clause-written c = source_written c.texts_are_utf8.ensures
