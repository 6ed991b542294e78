use Rattle.std.proofs.Common.{arith}
use Rattle.standard_numbers.proofs.Forms.{length_of_digits}
use Rattle.standard_numbers.proofs.IsbnPlaces.{ten_digits}
use Rattle.standard_numbers.proofs.isbn.is_right_isbn.Goals as goal

pub weighted-requires-clause-few : goal.weighted-requires-clause-few
weighted-requires-clause-few c =
    let ten = ten_digits c.args.digits.now c.requires (λ e. omega arith) in
    omega (arith, length_of_digits c.args.digits.now 10 ten)
