use Rattle.machine_laws.proofs.Least.{least_decides, mismatch_decides}
use Rattle.machine_laws.proofs.typable.least_table_decides.Goals as goal

pub returns-clause-typable : goal.returns-clause-typable
returns-clause-typable start = least_decides

pub returns-clause-mismatch : goal.returns-clause-mismatch
returns-clause-mismatch start = mismatch_decides
