use Rattle.machine_laws.proofs.Courses.{course_decided, outcome_decided}
use Rattle.machine_laws.proofs.runs.course_is_decided.Goals as goal

pub returns-clause-course : goal.returns-clause-course
returns-clause-course start = course_decided

pub returns-clause-outcome : goal.returns-clause-outcome
returns-clause-outcome start = outcome_decided
