use Rattle.std.proofs.Common.{arith}
use Rattle.std.proofs.lemmas.Grind.{common_steps}
use Rattle.table_inspection.proofs.columns.add_if_unknown.Goals as goal

pub returns-then-is_unknown : goal.returns-then-is_unknown
returns-then-is_unknown c = grind (arith, common_steps)

pub returns : goal.returns
returns c = grind (arith, common_steps)
