use Rattle.machine_laws.proofs.Least.{one_first_mismatch, mismatch_untypable}
use Rattle.machine_laws.proofs.typable.mismatch_is_exact.Goals as goal

pub returns-clause-one : goal.returns-clause-one
returns-clause-one start = one_first_mismatch

pub returns-clause-untypable : goal.returns-clause-untypable
returns-clause-untypable start = mismatch_untypable
