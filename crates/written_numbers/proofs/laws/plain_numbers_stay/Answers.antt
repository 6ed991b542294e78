use Rattle.written_numbers.proofs.NumberLaws.{number_stays}
use Rattle.written_numbers.proofs.laws.plain_numbers_stay.Goals as goal

pub returns : goal.returns
returns c = number_stays
