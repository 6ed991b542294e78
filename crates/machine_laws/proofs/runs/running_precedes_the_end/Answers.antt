use Rattle.machine_laws.proofs.Courses.{running_before}
use Rattle.machine_laws.proofs.runs.running_precedes_the_end.Goals as goal

pub returns : goal.returns
returns start c v k m s a b = running_before c v k m s b.0 a b.1
