use Rattle.machine_laws.proofs.Limit.{within_limit}
use Rattle.machine_laws.proofs.Courses.{course_found}
use Rattle.machine_laws.proofs.runs.every_run_ends.Goals as goal

pub returns-clause-ends_with : goal.returns-clause-ends_with
returns-clause-ends_with start = course_found

pub returns-clause-in_time : goal.returns-clause-in_time
returns-clause-in_time start = within_limit
