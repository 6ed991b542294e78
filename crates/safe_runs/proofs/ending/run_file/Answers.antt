use Rattle.std.proofs.Common.{Err, ap}
use Rattle.safe_runs.proofs.Safely.{is_cause}
use Rattle.safe_runs.proofs.ending.run_file.Goals as goal

pub returns-clause-refused : goal.returns-clause-refused
returns-clause-refused c =
    is_cause c.args.bytes.now c.in_ok-code.code c.args.env.now c.in-Err.error c.in_ok-code.ensures.accepted
    (record { over = λ n same. (c.in-Err.ensures.over n).0 (ap Err same); no_memory = λ same. c.in-Err.ensures.no_memory (ap Err same) })
