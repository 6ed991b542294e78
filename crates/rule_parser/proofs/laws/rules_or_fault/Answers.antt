-- Each line continues those before it, or it is the first that cannot.
use Rattle.rule_parser.proofs.LineChoice.{bytes_choice}
use Rattle.rule_parser.proofs.laws.rules_or_fault.Goals as goal

pub returns : goal.returns
returns c = bytes_choice c.tree_or_fault.ensures
