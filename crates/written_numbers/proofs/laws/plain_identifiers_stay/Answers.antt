use Rattle.written_numbers.proofs.IdentifierLaws.{identifier_stays}
use Rattle.written_numbers.proofs.laws.plain_identifiers_stay.Goals as goal

pub returns : goal.returns
returns c = identifier_stays
