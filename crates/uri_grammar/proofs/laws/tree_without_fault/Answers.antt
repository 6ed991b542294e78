use Rattle.uri_grammar.proofs.PartLaws.{tree_without_fault}
use Rattle.uri_grammar.proofs.laws.tree_without_fault.Goals as goal

pub returns : goal.returns
returns c = tree_without_fault
