use Rattle.uri_grammar.proofs.ExpressionChoices.{tree_or_fault}
use Rattle.uri_grammar.proofs.laws.tree_or_fault.Goals as goal

pub returns : goal.returns
returns c = tree_or_fault
