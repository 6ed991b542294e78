use Rattle.machine_model.specs.States.{Running}
use Rattle.machine_laws.proofs.Safety.{reached, stepping}
use Rattle.machine_laws.proofs.safe.reached_states_conform.Goals as goal

pub returns-clause-conforms : goal.returns-clause-conforms
returns-clause-conforms start c t v k s form some closed meets h = reached c form some t closed meets v k (Running s) h

pub returns-clause-continues : goal.returns-clause-continues
returns-clause-continues start c v k s form some y h =
    let next = stepping c form some y.0 y.1 y.2 v s (reached c form some y.0 y.1 y.2 v k (Running s) h) in
    (next.0, next.1)
