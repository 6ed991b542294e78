-- Each rule that is printed as failing has a guard that fails.
use Rattle.rule_explanation.proofs.LawLemmas.{rules_fail}
use Rattle.rule_explanation.proofs.laws.printed_rules_fail.Goals as goal

pub returns : goal.returns
returns c = λ look rules. rules_fail look rules
