use Rattle.source_queries.proofs.Readings.{source_once}
use Rattle.source_queries.proofs.laws.source_queries_stay.Goals as goal

pub returns : goal.returns
returns c = source_once c.texts_are_utf8.ensures c.settled_queries_stay.ensures.forms c.repaired_queries_stay.ensures.once
