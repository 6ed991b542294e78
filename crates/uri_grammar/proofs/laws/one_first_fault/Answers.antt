use Rattle.uri_grammar.proofs.PartLaws.{one_first_fault}
use Rattle.uri_grammar.proofs.laws.one_first_fault.Goals as goal

pub returns : goal.returns
returns c = one_first_fault
