-- The rule that is printed as holding has the link that the rules mean.
use Rattle.rule_parser.specs.Meaning.{seen}
use Rattle.rule_explanation.proofs.LawLemmas.{no_meaning, says_meaning}
use Rattle.rule_explanation.proofs.laws.printed_rule_gives_the_meaning.Goals as goal

pub returns-clause-printed : goal.returns-clause-printed
returns-clause-printed c = λ rules env. says_meaning (seen rules env) rules.rules

pub returns-clause-none : goal.returns-clause-none
returns-clause-none c = λ rules env. no_meaning (seen rules env) rules.rules
