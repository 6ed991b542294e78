use Rattle.source_requests.proofs.ReadBack.{read_back}
use Rattle.source_requests.proofs.laws.written_pairs_are_read_back.Goals as goal

pub returns : goal.returns
returns c = read_back c.forms_are_read_back.ensures
