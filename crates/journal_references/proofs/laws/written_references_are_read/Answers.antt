use Rattle.journal_references.proofs.WrittenPlaces.{written_read}
use Rattle.journal_references.proofs.laws.written_references_are_read.Goals as goal

pub returns : goal.returns
returns c = written_read
