-- The lines of rules have no error, and their bytes are not too many, and are UTF-8.
use Rattle.rule_parser.proofs.FirstFaults.{no_refusal}
use Rattle.rule_parser.proofs.laws.rules_without_fault.Goals as goal

pub returns : goal.returns
returns c = λ bytes rules kind line a b. no_refusal c.one_tree.ensures c.tree_without_fault.ensures bytes rules kind line a b
