use Rattle.std.proofs.Common.{arith}
use Rattle.target_vars.proofs.NewForks.{same_code}
use Rattle.target_vars.proofs.names.forks.first_difference.Goals as goal

pub loop-at-preserved : goal.loop-at-preserved
loop-at-preserved c = grind (arith, same_code, c.code_at.ensures, c.loop-at-test.true, c.code_at-in-loop-at.ensures)
