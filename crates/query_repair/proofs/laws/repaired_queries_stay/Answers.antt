use Rattle.query_repair.specs.Repair.{repaired}
use Rattle.query_repair.proofs.OnceRepaired.{repaired_settled}
use Rattle.query_repair.proofs.Stays.{settled_stays}
use Rattle.query_repair.proofs.laws.repaired_queries_stay.Goals as goal

pub returns-clause-settled : goal.returns-clause-settled
returns-clause-settled c = repaired_settled

pub returns-clause-once : goal.returns-clause-once
returns-clause-once c = λ query. settled_stays (repaired query) (repaired_settled query)
