-- The three forms of a date (ISO 8601, without times): YYYY, YYYY-MM and YYYY-MM-DD.
use Rattle.std.specs.Prelude.{◌≡◌, ℕ, true, ◌∷◌, ◌++◌, length, All}
use Rattle.std.specs.Char.{is_ascii_digit}
use Rattle.text_model.specs.Texts.{Text}
use Rattle.publication_dates.specs.Calendar.{hyphen, is_year, year_value, value, is_between, days_of}

abbrev pub AreDigits : Text → Type 0
AreDigits text = All (λ b. is_ascii_digit b ≡ true) text

pub record IsYear (text : Text) : Type 0 where
  pub digits : AreDigits text
  pub year : is_year text ≡ true

-- two digits, whose number is in the range
pub record IsTwo (low high : ℕ) (text : Text) : Type 0 where
  pub digits : AreDigits text
  pub two : length text ≡ 2
  pub number : is_between low high text ≡ true

-- a year; a month of it; a day that this month has
pub data IsDate : Text → Type 0 where
  year_alone : (y : Text) → IsYear y → IsDate y
  with_month : (y m : Text) → IsYear y → IsTwo 1 12 m → IsDate (y ++ hyphen ∷ m)
  with_day : (y m d : Text) → IsYear y → IsTwo 1 12 m → IsTwo 1 (days_of (year_value y) (value m)) d → IsDate (y ++ hyphen ∷ m ++ hyphen ∷ d)
