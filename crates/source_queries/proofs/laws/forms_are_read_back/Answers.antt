use Rattle.source_queries.proofs.Readings.{read_back}
use Rattle.source_queries.proofs.laws.forms_are_read_back.Goals as goal

pub returns : goal.returns
returns c = read_back
