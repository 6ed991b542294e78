-- The names of months in a text.
use Rattle.std.specs.Prelude.{ℕ, ◌+◌, ◌/◌, ◌%◌, not, nat_le, List, [], ◌∷◌, length, codes, Option, Some, None, is_some, if◌then◌else◌}
use Rattle.std.specs.Char.{is_ascii_alphabetic}
use Rattle.std.specs.List.{slice_split}
use Rattle.text_model.specs.Texts.{Text}
use Rattle.uri_text.specs.AnyCase.{begins_in_any_case}
use Rattle.publication_dates.specs.Calendar.{zero_digit}

abbrev pub month_names : List Text
month_names =
    codes "january" ∷ codes "february" ∷ codes "march" ∷ codes "april" ∷ codes "may" ∷ codes "june" ∷ codes "july" ∷ codes "august" ∷
    codes "september" ∷ codes "october" ∷ codes "november" ∷ codes "december" ∷ []

-- the longest runs of letters, in order, and empty words between other bytes
abbrev pub words : Text → List Text
words text = slice_split (λ b. not (is_ascii_alphabetic b)) text

-- the number, counted from `i`, of the first name that begins with the word
abbrev pub number_from : Text → ℕ → List Text → Option ℕ
number_from word i [] = None
number_from word i (name ∷ names) = if begins_in_any_case name word then Some i else number_from word (i + 1) names

-- the month that a word means: three letters of its name or more, as `Aug`, `Sept` or `MAY`
abbrev pub month_of : Text → Option ℕ
month_of word = if nat_le 3 (length word) then number_from word 1 month_names else None

-- the first month that a word means
abbrev pub first_month : List Text → Option ℕ
first_month [] = None
first_month (word ∷ words) = if is_some (month_of word) then month_of word else first_month words

-- two digits
abbrev pub digits_of : ℕ → Text
digits_of month = (zero_digit + month / 10) ∷ (zero_digit + month % 10) ∷ []
