use Rattle.standard_numbers.proofs.CheckSums.{isbn13_is_right}
use Rattle.standard_numbers.proofs.laws.isbns_of_ten_digits_become_right_ones.Goals as goal

pub returns : goal.returns
returns c = isbn13_is_right
