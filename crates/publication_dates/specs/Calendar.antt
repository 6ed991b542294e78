-- Years, months and days as digits, and how many days a month has (ISO 8601: the Gregorian calendar).
use Rattle.std.specs.Prelude.{ℕ, ◌+◌, ◌-◌, ◌*◌, ◌%◌, ◌==◌, ◌||◌, ◌&&◌, not, nat_le, Bool, ◌∷◌, ◌++◌, length, slice_index, if◌then◌else◌}
use Rattle.text_model.specs.Texts.{Text}

abbrev pub hyphen : ℕ
hyphen = 0x2d

abbrev pub zero_digit : ℕ
zero_digit = 0x30

abbrev pub digit_value : Text → ℕ → ℕ
digit_value digits i = slice_index digits i - zero_digit

-- four digits, from 1000 to 2999
abbrev pub is_year : Text → Bool
is_year digits = (length digits == 4) && ((slice_index digits 0 == 0x31) || (slice_index digits 0 == 0x32))

abbrev pub year_value : Text → ℕ
year_value year = 1000 * digit_value year 0 + 100 * digit_value year 1 + 10 * digit_value year 2 + digit_value year 3

-- one digit or two
abbrev pub is_part : Text → Bool
is_part digits = nat_le (length digits) 2 && nat_le 1 (length digits)

-- a part with two digits, and its value
abbrev pub two : Text → Text
two part = if length part == 1 then (zero_digit ∷ part) else part

abbrev pub value : Text → ℕ
value part = 10 * digit_value (two part) 0 + digit_value (two part) 1

abbrev pub is_between : ℕ → ℕ → Text → Bool
is_between low high part = is_part part && nat_le low (value part) && nat_le (value part) high

abbrev pub is_leap : ℕ → Bool
is_leap year = (year % 4 == 0) && (not (year % 100 == 0) || (year % 400 == 0))

-- how many days a month of a year has
abbrev pub days_of : ℕ → ℕ → ℕ
days_of year month =
    if month == 2 then (if is_leap year then 29 else 28)
    else (if (month == 4) || (month == 6) || (month == 9) || (month == 11) then 30 else 31)

abbrev pub is_month : Text → Bool
is_month part = is_between 1 12 part

-- a day that the month of the year has
abbrev pub is_day : Text → Text → Text → Bool
is_day year month part = is_between 1 (days_of (year_value year) (value month)) part

-- a year, with its month if there is such a month, and then with its day if that month has such a day
abbrev pub dated : Text → Text → Text → Text
dated year month day =
    if is_month month
    then (if is_day year month day then (year ++ hyphen ∷ two month ++ hyphen ∷ two day) else (year ++ hyphen ∷ two month))
    else year
