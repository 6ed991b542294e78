use Rattle.machine_laws.proofs.Courses.{ends_once}
use Rattle.machine_laws.proofs.runs.run_ends_once.Goals as goal

pub returns : goal.returns
returns start c v k m a b = ends_once c v k m a.0 b.0 a.1 b.1
