use Rattle.written_numbers.proofs.IdentifierLaws.{layout_read}
use Rattle.written_numbers.proofs.laws.layout_goes.Goals as goal

pub returns : goal.returns
returns c = layout_read
