use Rattle.source_queries.proofs.Readings.{source_texts, source_read, source_declared}
use Rattle.source_queries.proofs.laws.source_queries_are_utf8.Goals as goal

pub returns-clause-texts : goal.returns-clause-texts
returns-clause-texts c = source_texts c.texts_are_utf8.ensures

pub returns-clause-read : goal.returns-clause-read
returns-clause-read c = source_read c.texts_are_utf8.ensures

pub returns-clause-declared : goal.returns-clause-declared
returns-clause-declared c = source_declared c.texts_are_utf8.ensures
