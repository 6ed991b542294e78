use Rattle.written_numbers.proofs.IdentifierLaws.{identifier_utf8}
use Rattle.written_numbers.proofs.laws.identifiers_are_utf8.Goals as goal

pub returns : goal.returns
returns c = identifier_utf8
