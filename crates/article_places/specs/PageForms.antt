-- The forms of a page: letters, digits and what may follow them, or a Roman numeral.
use Rattle.std.specs.Prelude.{ℕ, ◌+◌, ◌==◌, ◌||◌, ◌&&◌, not, nat_le, nat_lt, Bool, false, [], ◌∷◌, codes}
use Rattle.std.specs.Prelude.{length, take, drop, slice_index, Option, Some, None, if◌then◌else◌}
use Rattle.std.specs.Char.{is_ascii_alphabetic, is_ascii_alphanumeric, is_ascii_digit, to_ascii_lowercase}
use Rattle.std.specs.List.{list_all, list_any, prefix_len}
use Rattle.std.specs.Str.{str_eq_ignore_ascii_case}
use Rattle.text_model.specs.Texts.{Text}
use Rattle.article_places.specs.Labels.{page_labels, is_one_of}
use Rattle.article_places.specs.Words.{letters}

-- how many digits are after the letters with which a word begins
abbrev pub digits : Text → ℕ
digits word = prefix_len is_ascii_digit (drop (letters word) word)

-- the letters with which a word begins say that a page is next, as in `p45`
abbrev pub has_label : Text → Bool
has_label word = is_one_of page_labels (take (letters word) word)

-- at most four letters, and digits, as `45`, `S12` and `e1234`
abbrev pub is_numbered : Text → Bool
is_numbered word = nat_lt 0 (digits word) && nat_le (letters word) 4 && not (has_label word)

abbrev pub is_stop : ℕ → Bool
is_stop b = b == 0x2e

-- a full stop, and letters and digits
abbrev pub is_decimal : Text → Bool
is_decimal [] = false
is_decimal (b ∷ rest) = is_stop b && list_all is_ascii_alphanumeric rest && list_any is_ascii_digit rest

-- `f` or `ff`, for the pages that follow
abbrev pub is_following : Text → Bool
is_following rest = str_eq_ignore_ascii_case rest (codes "f") || str_eq_ignore_ascii_case rest (codes "ff")

-- what belongs to a page after its digits: nothing, a letter or two as in `45A`, or as in `45.e1`
abbrev pub is_suffix : Text → Bool
is_suffix rest = (nat_le (length rest) 2 && list_all is_ascii_alphabetic rest && not (is_following rest)) || is_decimal rest

-- the page with which a word begins
abbrev pub numbered : Text → Text
numbered word = let n = letters word + digits word in if is_suffix (drop n word) then word else take n word

-- one of `ivxlcdm`, in capital or small letters
abbrev pub is_numeral : ℕ → Bool
is_numeral b = let c = to_ascii_lowercase b in c == 0x69 || c == 0x76 || c == 0x78 || c == 0x6c || c == 0x63 || c == 0x64 || c == 0x6d

-- a Roman numeral, and maybe a full stop
abbrev pub is_roman_page : Text → Bool
is_roman_page word =
    nat_lt 0 (letters word) && list_all is_numeral (take (letters word) word)
    && ((length word == letters word) || ((length word == letters word + 1) && is_stop (slice_index word (letters word))))

abbrev pub roman : Text → Text
roman word = take (letters word) word

-- the page with which a word begins, if it begins with one
abbrev pub page : Text → Option Text
page word = if is_numbered word then Some (numbered word) else (if is_roman_page word then Some (roman word) else None)
