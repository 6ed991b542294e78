use Rattle.machine_model.proofs.Decides.{after_decided}
use Rattle.machine_laws.proofs.steps.states_after_steps_are_decided.Goals as goal

pub returns : goal.returns
returns start = after_decided
