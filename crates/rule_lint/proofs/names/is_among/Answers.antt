use Rattle.std.proofs.Common.{◌∙◌}
use Rattle.rule_lint.proofs.ListSteps.{any_lent}
use Rattle.rule_lint.proofs.names.is_among.Goals as goal

pub returns : goal.returns
returns c = c.contains.ensures.value ∙ any_lent c.args.name.now c.args.names.now
