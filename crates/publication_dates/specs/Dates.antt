-- The date in a text of any source.
use Rattle.std.specs.Prelude.{ℕ, zero, suc, ◌+◌, ◌-◌, ◌==◌, ◌||◌, ◌&&◌, not, Bool, List, [], ◌∷◌, length, take, drop, slice_index, Option, Some, None}
use Rattle.std.specs.Prelude.{option_map, if◌then◌else◌}
use Rattle.std.specs.Char.{is_ascii_digit, is_ascii_whitespace}
use Rattle.std.specs.List.{slice_split, prefix_len, suffix_len}
use Rattle.std.specs.Option.{option_map_or}
use Rattle.text_model.specs.Texts.{Text}
use Rattle.publication_dates.specs.Calendar.{is_year, is_part, is_month, value, dated}
use Rattle.publication_dates.specs.Months.{words, first_month, digits_of}

-- ---- the text and its digits

-- without the spaces at its ends
abbrev pub trimmed : Text → Text
trimmed text =
    let t = drop (prefix_len is_ascii_whitespace text) text in
    take (length t - suffix_len is_ascii_whitespace t) t

-- the longest runs of digits, in order, and empty parts between other bytes: so one byte is between two parts
abbrev pub parts : Text → List Text
parts text = slice_split (λ b. not (is_ascii_digit b)) text

abbrev pub nth : List Text → ℕ → Text
nth [] i = []
nth (part ∷ parts) zero = part
nth (part ∷ parts) (suc i) = nth parts i

-- `-`, `/` or `.`; and a space
abbrev pub is_mark : ℕ → Bool
is_mark b = b == 0x2d || b == 0x2f || b == 0x2e

abbrev pub is_separator : ℕ → Bool
is_separator b = is_mark b || b == 0x20

-- ---- the forms, of the text and its first parts

-- 2013-08-01, 2013/8/1, 2013 08
abbrev pub is_year_first : Text → Text → Text → Bool
is_year_first t first second = is_year first && is_separator (slice_index t 4) && is_part second

-- the day is after the same byte as the month: not in `2013-08/09`, which is two months
abbrev pub day_after : Text → Text → Text → Text
day_after t second third = if slice_index t (5 + length second) == slice_index t 4 then third else []

-- 20130801, also before other text; alone 201308, and 20130801 with a time in four or six digits
abbrev pub is_compact : Text → Text → Bool
is_compact t first =
    is_year (take 4 first)
    && ((length first == 8) || ((length first == length t) && ((length first == 6) || (length first == 12) || (length first == 14))))

abbrev pub compact_date : Text → Text
compact_date first = dated (take 4 first) (take 2 (drop 4 first)) (take 2 (drop 6 first))

-- 25/12/2013, 25.12.2013, 12/25/2013
abbrev pub is_year_last : Text → Text → Text → Text → Bool
is_year_last t first second third =
    is_part first && is_mark (slice_index t (length first)) && is_part second
    && is_mark (slice_index t (length first + 1 + length second)) && is_year third

-- a day and a month in either order: if both may be months, only the year is certain, unless they are the same
abbrev pub year_last_date : Text → Text → Text → Text
year_last_date a b year =
    if is_month a then (if is_month b && not (value a == value b) then year else dated year a b) else dated year b a

-- 8/2013, alone
abbrev pub is_month_and_year : Text → Text → Text → Bool
is_month_and_year t first second =
    is_part first && is_mark (slice_index t (length first)) && is_year second && (length t == length first + 5)

-- the first part that is a year
abbrev pub some_year : List Text → Option Text
some_year [] = None
some_year (part ∷ parts) = if is_year part then Some part else some_year parts

-- a year anywhere, with the first month that a word of the text means
abbrev pub named_date : Text → List Text → Option Text
named_date t ps = option_map (λ year. dated year (option_map_or digits_of (first_month (words t)) []) []) (some_year ps)

-- ---- the date

-- the first form that the text has, of those that do not begin with a year
abbrev pub year_later : Text → List Text → Option Text
year_later t ps =
    if is_year_last t (nth ps 0) (nth ps 1) (nth ps 2) then Some (year_last_date (nth ps 0) (nth ps 1) (nth ps 2))
    else (if is_month_and_year t (nth ps 0) (nth ps 1) then Some (dated (nth ps 1) (nth ps 0) [])
    else named_date t ps)

-- the first form that the text has
abbrev pub date_of : Text → List Text → Option Text
date_of t ps =
    if is_year_first t (nth ps 0) (nth ps 1) then Some (dated (nth ps 0) (nth ps 1) (day_after t (nth ps 1) (nth ps 2)))
    else (if is_compact t (nth ps 0) then Some (compact_date (nth ps 0))
    else year_later t ps)

-- the date in a text
abbrev pub date_in : Text → Option Text
date_in text = date_of (trimmed text) (parts (trimmed text))
