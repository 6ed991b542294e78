use Rattle.written_numbers.proofs.NumberLaws.{number_utf8}
use Rattle.written_numbers.proofs.laws.numbers_are_utf8.Goals as goal

pub returns : goal.returns
returns c = number_utf8
