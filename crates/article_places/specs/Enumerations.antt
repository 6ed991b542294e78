-- The numbers of a volume and of an issue in a text.
use Rattle.std.specs.Prelude.{ℕ, ◌==◌, ◌||◌, ◌&&◌, not, nat_le, Bool, List, [], ◌∷◌, ◌++◌, codes, length, slice_index, Option, Some, None, unwrap_or}
use Rattle.std.specs.Prelude.{if◌then◌else◌}
use Rattle.std.specs.Char.{is_ascii_alphabetic, is_ascii_digit, to_ascii_lowercase}
use Rattle.std.specs.List.{list_all, take_while}
use Rattle.std.specs.Option.{option_copied}
use Rattle.text_model.specs.Texts.{Text}
use Rattle.article_places.specs.declared.enumerations.Enumeration.{Enumeration}
use Rattle.article_places.specs.Labels.{is_label, is_issue_word, is_supplement_word}
use Rattle.article_places.specs.Words.{is_open, is_number, words}

-- the first number, the number of an issue after it, and the mark of a supplement, empty if it has none
pub record Numbers : Type 0 where
  pub first : Option Text
  pub issue : Option Text
  pub supplement : Option Text

abbrev pub numbers : Enumeration → Numbers
numbers e = record { first = option_copied e.first; issue = option_copied e.issue; supplement = option_copied e.supplement }

-- one number alone
abbrev pub alone : Text → Numbers
alone number = record { first = Some number; issue = None; supplement = None }

-- ---- words and numbers

-- without a word that says which number is first; and without one that says that it is an issue
abbrev pub after_label : List Text → List Text
after_label [] = []
after_label (word ∷ words) = if is_label word then words else (word ∷ words)

abbrev pub after_issue_word : List Text → List Text
after_issue_word [] = []
after_issue_word (word ∷ words) = if is_issue_word word then words else (word ∷ words)

-- neither `-` nor `/`
abbrev pub is_in_part : ℕ → Bool
is_in_part b = not (b == 0x2d || b == 0x2f)

-- a year from 1000 to 2999, or several, as `2003`, `2003-2004` and `2003/04`
abbrev pub is_year : Text → Bool
is_year number =
    let year = take_while is_in_part number in
    (length year == 4) && list_all is_ascii_digit year && (slice_index year 0 == 0x31 || slice_index year 0 == 0x32)

-- without a year in brackets, as in `53 (2003)` and `53 (2003), no. 2`
abbrev pub after_year : List Text → List Text
after_year [] = []
after_year (word ∷ []) = word ∷ []
after_year (bracket ∷ word ∷ words) = if is_open (slice_index bracket 0) && is_year word then words else (bracket ∷ word ∷ words)

-- one of `ivx`, in capital or small letters
abbrev pub is_roman : ℕ → Bool
is_roman b = let c = to_ascii_lowercase b in c == 0x69 || c == 0x76 || c == 0x78

-- `S` and a number, as of a supplement
abbrev pub is_s_number : Text → Bool
is_s_number word = to_ascii_lowercase (slice_index word 0) == 0x73 && is_number word

-- which supplement it is: a number, in Arabic or Roman numerals, or a letter
abbrev pub is_mark : Text → Bool
is_mark word = is_number word || (nat_le (length word) 1 && list_all is_ascii_alphabetic word) || (nat_le (length word) 5 && list_all is_roman word)

-- ---- the numbers, by cases on the words; none if the text has other words

-- what is after the word for a supplement: nothing, or which one it is
abbrev pub supplement : List Text → Option Text
supplement [] = Some []
supplement (mark ∷ []) = if is_mark mark && not (is_issue_word mark) then Some mark else None
supplement words = None

abbrev pub with_supplement : Option Text → Option Text → Option Text → Option Numbers
with_supplement first issue None = None
with_supplement first issue (Some mark) = Some (record { first = first; issue = issue; supplement = Some mark })

-- after the numbers: nothing, or a supplement
abbrev pub ended : Option Text → Option Text → List Text → Option Numbers
ended first issue [] = Some (record { first = first; issue = issue; supplement = None })
ended first issue (word ∷ words) =
    if is_supplement_word word then with_supplement first issue (supplement (after_issue_word words)) else None

-- after the first number and a word that says that an issue is next
abbrev pub with_issue : Text → List Text → Option Numbers
with_issue first [] = ended (Some first) None []
with_issue first (word ∷ words) =
    if is_number word then ended (Some first) (Some word) (after_issue_word (after_year words)) else ended (Some first) None (word ∷ words)

-- after the first number
abbrev pub after_first : Text → List Text → Option Numbers
after_first first [] = ended (Some first) None []
after_first first (word ∷ words) =
    if is_issue_word word then with_issue first (after_issue_word words)
    else (if is_s_number word then ended (Some first) (Some word) words else ended (Some first) None (word ∷ words))

abbrev pub from_first : List Text → Option Numbers
from_first [] = ended None None []
from_first (word ∷ words) = if is_number word then after_first word (after_year words) else ended None None (word ∷ words)

-- `53`, `Vol. 53`, `53(2)`, `53, no. 2`, `53 S1`, `53 (2003)`, `No. 2`, `136 Suppl 1`
abbrev pub numbers_in : Text → Option Numbers
numbers_in text = from_first (after_label (words text))

-- ---- the numbers as one text

abbrev pub written_issue : Option Text → Text
written_issue None = []
written_issue (Some number) = codes " no. " ++ number

abbrev pub written_supplement : Option Text → Text
written_supplement None = []
written_supplement (Some mark) = codes " Suppl " ++ mark

-- `53 no. 2 Suppl 1`
abbrev pub written : Numbers → Text
written n = unwrap_or n.first [] ++ (written_issue n.issue ++ written_supplement n.supplement)

-- a supplement as PubMed writes it, such as `Suppl 1`
abbrev pub short_supplement : Text → Text
short_supplement [] = codes "Suppl"
short_supplement (b ∷ mark) = codes "Suppl " ++ b ∷ mark
