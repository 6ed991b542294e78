-- The day and the month beside a year.
use Rattle.std.specs.Prelude.{ℕ, ◌+◌, ◌==◌, ◌||◌, ◌&&◌, not, nat_le, nat_lt, Bool, [], ◌∷◌}
use Rattle.std.specs.Prelude.{length, take, drop, slice_index, unwrap_or, is_some, if◌then◌else◌}
use Rattle.std.specs.Char.{is_ascii_alphabetic, is_ascii_digit}
use Rattle.std.specs.List.{prefix_len}
use Rattle.text_model.specs.Texts.{Text}
use Rattle.journal_references.specs.declared.words.Word.TheVariants.{OfIssue, OfPages, OfMonth}
use Rattle.journal_references.specs.Words.{words, is_one_of, word_length}

-- ---- days

-- a space or a full stop, between a day and the month after it
abbrev pub is_day_gap : ℕ → Bool
is_day_gap b = b == 0x20 || b == 0x2e

-- one of these or a comma
abbrev pub is_month_gap : ℕ → Bool
is_month_gap b = is_day_gap b || b == 0x2c

-- of these digits: one, or two of which the first is at most 3
abbrev pub is_day : Text → Bool
is_day t = (length t == 1) || ((length t == 2) && nat_le (slice_index t 0) 0x33)

-- a day, and these bytes after it, of which there is one at least
abbrev pub day_length : (ℕ → Bool) → Text → ℕ
day_length gap t =
    let n = prefix_len is_ascii_digit t in
    let after = prefix_len gap (drop n t) in
    if is_day (take n t) && nat_lt 0 after then n + after else 0

-- ---- months

abbrev pub begins_with_month : Text → Bool
begins_with_month t = is_some (word_length OfMonth t)

abbrev pub one_month : Text → ℕ
one_month t = unwrap_or (word_length OfMonth t) 0

-- a hyphen or a slash, and another month, if there is one
abbrev pub second_month : Text → ℕ
second_month [] = 0
second_month (b ∷ t) = if b == 0x2d || b == 0x2f then 1 + one_month t else 0

-- `Mar. `, `March `, `Mar-Apr `
abbrev pub months : Text → ℕ
months t = let n = one_month t in n + second_month (drop n t)

-- and a day after them, as in `March 15, `
abbrev pub month_and_day : Text → ℕ
month_and_day t = let n = months t in n + day_length is_month_gap (drop n t)

-- the month, with a day before it or after it, if a text begins with these: `15 Mar. `, `March 15, `
abbrev pub date_length : Text → ℕ
date_length t =
    let n = day_length is_day_gap t in
    if begins_with_month (drop n t) then n + month_and_day (drop n t) else 0

-- a day before a month is no page
abbrev pub begins_with_day : Text → Bool
begins_with_day t = let n = day_length is_day_gap t in nat_lt 0 n && begins_with_month (drop n t)

-- ---- before a year

-- a letter, a byte of another character, `-` or `/`
abbrev pub is_name_byte : ℕ → Bool
is_name_byte b = is_ascii_alphabetic b || nat_le 0x80 b || b == 0x2d || b == 0x2f

-- three bytes at least, before others, and no word for pages or an issue: a season, or a month in another language
abbrev pub is_name : Text → ℕ → Bool
is_name name after = nat_le 3 (length name) && nat_lt 0 after && not (is_one_of (words OfPages) name || is_one_of (words OfIssue) name)

abbrev pub name_length : Text → ℕ
name_length t =
    let n = prefix_len is_name_byte t in
    let after = prefix_len is_month_gap (drop n t) in
    if is_name (take n t) after then n + after else 0

-- that many bytes, and what is between them and the year
abbrev pub with_gap : ℕ → Text → ℕ
with_gap n t = n + prefix_len is_month_gap (drop n t)

-- a month and maybe a day, or such a name
abbrev pub month_length : Text → ℕ
month_length t = let n = date_length t in if n == 0 then name_length t else with_gap n t
