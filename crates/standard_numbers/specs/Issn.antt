-- ISSNs (ISO 3297): seven digits and a check digit, written NNNN-NNNC.
use Rattle.std.specs.Prelude.{◌≡◌, ℕ, ◌+◌, ◌-◌, ◌*◌, ◌%◌, ◌==◌, ◌||◌, ◌&&◌, not, nat_eq, nat_le, Bool, true, false, List, [], ◌∷◌, ◌++◌, length, take, drop}
use Rattle.std.specs.Prelude.{slice_index, map, filter, codes, Option, Some, None, if◌then◌else◌}
use Rattle.std.specs.Char.{is_ascii_digit, to_ascii_uppercase}
use Rattle.std.specs.List.{list_all, starts_with}
use Rattle.std.specs.Str.{bytes_eq}
use Rattle.text_model.specs.Texts.{Text}
use Rattle.standard_numbers.specs.Spellings.{hyphen, is_joint, are_digits, spellings, right_first}
use Rattle.standard_numbers.specs.CheckDigits.{value, weighted}

-- ---- the form

-- an ISSN as the standard writes it
abbrev pub is_issn : Text → Bool
is_issn issn = list_all is_ascii_digit (take 4 issn) && (slice_index issn 4 == hyphen) && are_digits 4 (drop 5 issn)

abbrev pub IsIssn : Text → Type 0
IsIssn issn = is_issn issn ≡ true

abbrev pub is_right_issn : Text → Bool
is_right_issn issn = (weighted 8 (take 4 issn) + weighted 4 (drop 5 issn)) % 11 == 0

-- ---- where one is in a text

-- digits and hyphens: next to an ISSN, they would be part of a longer number
abbrev pub touches : ℕ → Bool
touches b = is_ascii_digit b || b == hyphen

-- four digits at the beginning, and the other four from a place on
abbrev pub has_halves : ℕ → Text → Bool
has_halves half t = list_all is_ascii_digit (take 4 t) && are_digits 4 (take 4 (drop half t))

-- the length of the ISSN that a text begins with, after the byte before: four digits, a hyphen or a space or neither, and the other four
abbrev pub issn_length : ℕ → Text → Option ℕ
issn_length before t =
    let half = if is_joint (slice_index t 4) then 5 else 4 in
    if not (touches before) && not (touches (slice_index t (half + 4))) && has_halves half t
    then Some (half + 4) else None

-- the ISSN, as the standard writes it, of these eight or nine bytes
abbrev pub issn_of : Text → Text
issn_of spelling = take 4 spelling ++ hyphen ∷ drop (length spelling - 4) spelling

-- ---- which of them count

-- what some sources send for none
abbrev pub is_zero : Text → Bool
is_zero issn = bytes_eq issn (codes "0000-0000")

-- the number that four digits write
abbrev pub number_of : Text → ℕ
number_of digits =
    1000 * value (slice_index digits 0) + 100 * value (slice_index digits 1) + 10 * value (slice_index digits 2) + value (slice_index digits 3)

-- two years of the centuries in which there have been printed works, the second not before the first, as in `2013-2014`
abbrev pub is_span : Text → Bool
is_span issn =
    list_all is_ascii_digit (drop 5 issn) && nat_le 1400 (number_of (take 4 issn))
    && nat_le (number_of (take 4 issn)) (number_of (drop 5 issn)) && nat_le (number_of (drop 5 issn)) 2099

-- the text, in capitals, has the letters `ISSN`
abbrev pub says_issn : Text → Bool
says_issn [] = false
says_issn (b ∷ t) = starts_with nat_eq (b ∷ t) (codes "ISSN") || says_issn t

-- not zeros; and a span of years only if its check digit is right, or the text says that it is an ISSN
abbrev pub counts : Bool → Text → Bool
counts said issn = not (is_zero issn) && (said || is_right_issn issn || not (is_span issn))

-- what does not count unless the text says that it is an ISSN, or not even then
abbrev pub is_doubtful : Text → Bool
is_doubtful issn = not (counts false issn)

-- the ISSNs in a text in capitals
abbrev pub issns_in_capitals : Text → List Text
issns_in_capitals t = right_first is_right_issn (filter (counts (says_issn t)) (map issn_of (spellings issn_length t)))

-- the ISSNs in a text, in capital or small letters
abbrev pub issns_in : Text → List Text
issns_in text = issns_in_capitals (map to_ascii_uppercase text)
