use Rattle.machine_laws.proofs.OutputBounds.{safe}
use Rattle.machine_laws.proofs.safe.typable_code_is_safe.Goals as goal

pub returns : goal.returns
returns start = safe
