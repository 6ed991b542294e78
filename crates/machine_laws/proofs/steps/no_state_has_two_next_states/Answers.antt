use Rattle.machine_model.proofs.Decides.{step_one}
use Rattle.machine_laws.proofs.steps.no_state_has_two_next_states.Goals as goal

pub returns : goal.returns
returns start = step_one
