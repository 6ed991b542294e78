use Rattle.std.specs.Prelude.{map}
use Rattle.std.specs.Char.{to_ascii_uppercase}
use Rattle.standard_numbers.specs.Spellings.{spellings}
use Rattle.standard_numbers.specs.Isbn.{is_right_isbn, isbn_length, compact}
use Rattle.standard_numbers.proofs.RightFirst.{right_first_again}
use Rattle.standard_numbers.proofs.laws.right_isbns_lead.Goals as goal

pub returns : goal.returns
returns c = λ text. right_first_again is_right_isbn (map compact (spellings isbn_length (map to_ascii_uppercase text)))
