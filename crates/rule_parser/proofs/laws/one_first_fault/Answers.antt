-- Bytes are too many, or not UTF-8, or have lines with one first error.
use Rattle.rule_parser.proofs.FirstFaults.{one_refusal}
use Rattle.rule_parser.proofs.laws.one_first_fault.Goals as goal

pub returns : goal.returns
returns c = λ bytes kind other line place a b. one_refusal c.one_tree.ensures c.tree_without_fault.ensures c.one_first_fault.ensures bytes kind other line
    place a b
