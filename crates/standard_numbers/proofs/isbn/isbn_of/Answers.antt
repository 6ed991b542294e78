use Rattle.std.proofs.Common.{arith}
use Rattle.standard_numbers.proofs.Ascii.{ascii_isbn}
use Rattle.standard_numbers.proofs.IsbnPlaces.{thirteen_digits}
use Rattle.standard_numbers.proofs.isbn.isbn_of.Goals as goal

pub ascii_text-requires : goal.ascii_text-requires
ascii_text-requires c = ascii_isbn c.args.digits.now (thirteen_digits c.args.digits.now c.requires (omega arith))
