use Rattle.uri_grammar.proofs.PartLaws.{one_tree}
use Rattle.uri_grammar.proofs.laws.one_tree.Goals as goal

pub returns : goal.returns
returns c = one_tree
