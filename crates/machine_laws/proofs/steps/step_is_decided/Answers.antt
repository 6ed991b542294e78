use Rattle.machine_model.proofs.Decides.{step_decided}
use Rattle.machine_laws.proofs.steps.step_is_decided.Goals as goal

pub returns : goal.returns
returns start = step_decided
