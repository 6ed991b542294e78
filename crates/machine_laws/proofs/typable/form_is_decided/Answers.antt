use Rattle.machine_model.proofs.Faults.{form_decided}
use Rattle.machine_laws.proofs.typable.form_is_decided.Goals as goal

pub returns : goal.returns
returns start = form_decided
