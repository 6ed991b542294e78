use Rattle.query_repair.proofs.Bounds.{repaired_bound}
use Rattle.query_repair.proofs.laws.repairs_are_bounded.Goals as goal

pub returns : goal.returns
returns c = repaired_bound
