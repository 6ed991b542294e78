-- ISBNs (ISO 2108): 13 digits, of which the last is a check digit modulo 10; before 2007 ten, without 978 and with a check digit modulo 11.
use Rattle.std.specs.Prelude.{◌≡◌, ℕ, ◌+◌, ◌-◌, ◌%◌, ◌==◌, ◌||◌, ◌&&◌, not, Bool, true, false, List, [], ◌∷◌, ◌++◌, length, take, slice_index, map, filter}
use Rattle.std.specs.Prelude.{codes, Option, Some, None, is_some, if◌then◌else◌}
use Rattle.std.specs.Char.{is_ascii_digit, to_ascii_uppercase}
use Rattle.std.specs.List.{list_all}
use Rattle.std.specs.Option.{option_and_then}
use Rattle.std.specs.Str.{bytes_eq}
use Rattle.text_model.specs.Texts.{Text}
use Rattle.standard_numbers.specs.Spellings.{ten, is_joint, spellings, right_first}
use Rattle.standard_numbers.specs.CheckDigits.{weighted, alternating}

-- ---- the form

-- the prefixes that the standard gives to books
abbrev pub has_prefix : Text → Bool
has_prefix t = bytes_eq (take 3 t) (codes "978") || bytes_eq (take 3 t) (codes "979")

-- an ISBN of 13 digits, without hyphens
abbrev pub is_isbn : Text → Bool
is_isbn isbn = (length isbn == 13) && list_all is_ascii_digit isbn && has_prefix isbn

abbrev pub IsIsbn : Text → Type 0
IsIsbn isbn = is_isbn isbn ≡ true

-- of 13 digits or of ten
abbrev pub is_right_isbn : Text → Bool
is_right_isbn digits = if length digits == 13 then alternating 1 digits % 10 == 0 else weighted 10 digits % 11 == 0

-- ---- where one is in a text

-- how many bytes there are up to the last of `left` more digits, of which the last may be `X` if `tens` says so, after `read` bytes; one
-- hyphen or space may be between two digits, and so at the beginning if `may_join` says that a digit is before it
abbrev pub digits_end : Bool → ℕ → ℕ → Bool → Text → Option ℕ
digits_end tens read left may_join [] = None
digits_end tens read left may_join (b ∷ t) =
    if is_ascii_digit b || (tens && left == 1 && b == ten)
    then (if left == 1 then Some (read + 1) else digits_end tens (read + 1) (left - 1) true t)
    else (if may_join && is_joint b then digits_end tens (read + 1) left false t else None)

-- that length, unless another digit follows
abbrev pub ended : Text → Option ℕ → Option ℕ
ended t end = option_and_then (λ n. if is_ascii_digit (slice_index t n) then None else Some n) end

abbrev pub length_of_13 : Text → Option ℕ
length_of_13 t = if has_prefix t then ended t (digits_end false 0 13 false t) else None

abbrev pub length_of_10 : Text → Option ℕ
length_of_10 t = ended t (digits_end true 0 10 false t)

-- the length of the ISBN that a text begins with, after the byte before
abbrev pub isbn_length : ℕ → Text → Option ℕ
isbn_length before t =
    if is_ascii_digit before then None else (if is_some (length_of_13 t) then length_of_13 t else length_of_10 t)

-- ---- how it is written

-- without hyphens and spaces
abbrev pub compact : Text → Text
compact spelling = filter (λ b. not (is_joint b)) spelling

-- the check digit that follows 12 digits
abbrev pub check_digit : Text → ℕ
check_digit body = 0x30 + (10 - alternating 1 body % 10) % 10

-- the ISBN of 13 digits of one of ten
abbrev pub isbn13_of : Text → Text
isbn13_of digits = let body = codes "978" ++ take 9 digits in body ++ check_digit body ∷ []

abbrev pub isbn_of : Text → Text
isbn_of digits = if length digits == 13 then digits else isbn13_of digits

-- ---- the ISBNs in a text

-- those with a right check digit first, of ten or of 13 digits
abbrev pub isbn_digits_in : Text → List Text
isbn_digits_in text = right_first is_right_isbn (map compact (spellings isbn_length (map to_ascii_uppercase text)))

-- all of 13 digits
abbrev pub isbns_in : Text → List Text
isbns_in text = map isbn_of (isbn_digits_in text)
