use Rattle.std.proofs.Common.{arith}
use Rattle.std.proofs.lemmas.Grind.{common_steps}
use Rattle.rule_lint.proofs.template_names.add_names.Goals as goal

pub loop-spec-preserved : goal.loop-spec-preserved
loop-spec-preserved c = grind (arith, common_steps)

pub returns : goal.returns
returns c = grind (arith, common_steps)
