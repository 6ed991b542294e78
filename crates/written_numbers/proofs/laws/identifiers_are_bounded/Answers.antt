use Rattle.written_numbers.proofs.IdentifierLaws.{identifier_short}
use Rattle.written_numbers.proofs.laws.identifiers_are_bounded.Goals as goal

pub returns : goal.returns
returns c = identifier_short
