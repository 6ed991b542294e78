use Rattle.std.specs.Prelude.{map, filter}
use Rattle.std.specs.Char.{to_ascii_uppercase}
use Rattle.standard_numbers.specs.Spellings.{spellings}
use Rattle.standard_numbers.specs.Issn.{is_right_issn, issn_length, issn_of, counts, says_issn}
use Rattle.standard_numbers.proofs.RightFirst.{right_first_again}
use Rattle.standard_numbers.proofs.laws.right_issns_lead.Goals as goal

pub returns : goal.returns
returns c = λ text.
    right_first_again is_right_issn
    (filter (counts (says_issn (map to_ascii_uppercase text))) (map issn_of (spellings issn_length (map to_ascii_uppercase text))))
