use Rattle.std.proofs.Common.{arith}
use Rattle.std.proofs.lemmas.Grind.{common_steps}
use Rattle.rule_lint.proofs.web_link.first_text.Goals as goal

pub loop-part-init : goal.loop-part-init
loop-part-init c = grind (arith, common_steps)

pub loop-part-preserved : goal.loop-part-preserved
loop-part-preserved c = grind (arith, common_steps)

pub returns-in-Expression : goal.returns-in-Expression
returns-in-Expression c = grind (arith, common_steps)

pub returns : goal.returns
returns c = grind (arith, common_steps)
