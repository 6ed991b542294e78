-- The first and the last day of a date, as eight digits (ISO 8601: the basic format of a calendar date).
use Rattle.std.specs.Prelude.{◌≡◌, ℕ, ◌+◌, ◌*◌, ◌/◌, ◌%◌, ◌==◌, ◌≤◌, not, List, [], ◌∷◌, ◌++◌, length, take, drop, filter, codes, if◌then◌else◌}
use Rattle.text_model.specs.Texts.{Text}
use Rattle.publication_dates.specs.Calendar.{hyphen, zero_digit, year_value, value, days_of}
use Rattle.publication_dates.specs.Forms.{IsYear, IsTwo}

-- YYYY, YYYYMM or YYYYMMDD
abbrev pub basic : Text → Text
basic date = filter (λ b. not (b == hyphen)) date

-- a number below 100 as two digits
abbrev pub two_digits : ℕ → Text
two_digits n = (zero_digit + n / 10) ∷ (zero_digit + n % 10) ∷ []

-- a text of that many bytes with a part after it; any other text as it is
abbrev pub completed : ℕ → Text → Text → Text
completed n part digits = if length digits == n then digits ++ part else digits

-- of YYYYMM
abbrev pub last_of_month : Text → Text
last_of_month digits = two_digits (days_of (year_value (take 4 digits)) (value (drop 4 digits)))

-- of a year in January, of a month its first one
abbrev pub first_day : Text → Text
first_day date = completed 6 (codes "01") (completed 4 (codes "01") (basic date))

-- of a year in December
abbrev pub in_last_month : Text → Text
in_last_month date = completed 4 (codes "12") (basic date)

abbrev pub last_day : Text → Text
last_day date = completed 6 (last_of_month (in_last_month date)) (in_last_month date)

pub record Days : Type 0 where
  pub first : Text
  pub last : Text

abbrev pub first_and_last : Text → Days
first_and_last date = record { first = first_day date; last = last_day date }

-- ---- for laws

-- YYYYMMDD, with a day that the month has
pub data IsDay : Text → Type 0 where
  day_of : (y m d : Text) → IsYear y → IsTwo 1 12 m → IsTwo 1 (days_of (year_value y) (value m)) d → IsDay (y ++ m ++ d)

-- the text begins with the digits of the date
abbrev pub IsOf : Text → Text → Type 0
IsOf date day = take (length (basic date)) day ≡ basic date
