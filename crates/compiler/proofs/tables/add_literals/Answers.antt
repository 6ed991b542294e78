use Rattle.std.proofs.Common.{arith}
use Rattle.std.proofs.lemmas.Grind.{common_steps}
use Rattle.compiler.proofs.TableGrowth.{gathered_entry}
use Rattle.compiler.proofs.tables.add_literals.Goals as goal

pub loop-line-preserved : goal.loop-line-preserved
loop-line-preserved c = grind (arith, common_steps, gathered_entry)

pub returns : goal.returns
returns c = grind (arith, common_steps)
