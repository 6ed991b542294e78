use Rattle.written_numbers.proofs.NumberLaws.{number_short}
use Rattle.written_numbers.proofs.laws.numbers_are_bounded.Goals as goal

pub returns : goal.returns
returns c = number_short
