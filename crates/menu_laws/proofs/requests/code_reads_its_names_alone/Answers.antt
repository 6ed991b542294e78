use Rattle.menu_laws.proofs.SameRuns.{same_outcome}
use Rattle.menu_laws.proofs.requests.code_reads_its_names_alone.Goals as goal

pub returns : goal.returns
returns c = same_outcome c.states_after_steps_are_decided.ensures
