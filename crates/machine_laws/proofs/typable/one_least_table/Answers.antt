use Rattle.machine_laws.proofs.Least.{least_once}
use Rattle.machine_laws.proofs.typable.one_least_table.Goals as goal

pub returns : goal.returns
returns start = least_once
