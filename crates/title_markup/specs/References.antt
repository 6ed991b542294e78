-- Character references (HTML Living Standard, sections 13.1.4 and 13.5; HTML 4.01, section 24).
use Rattle.std.specs.Prelude.{ℕ, ◌-◌, ◌==◌, ◌||◌, ◌&&◌, not, ◌∷◌, ◌++◌, if◌then◌else◌}
use Rattle.std.specs.Prelude.{nat_lt, nat_le, min, Bool, List, [], length, take, drop, Option, Some, None}
use Rattle.std.specs.Char.{is_digit}
use Rattle.std.specs.List.{list_all, list_any, slice_get}
use Rattle.std.specs.Option.{option_and_then, option_map}
use Rattle.std.specs.Str.{bytes_eq}
use Rattle.std.specs.Str.Parse.{digits_value}
use Rattle.text_model.specs.Texts.{Text}
use Rattle.title_markup.specs.declared.references.Base.{Base}
use Rattle.title_markup.specs.declared.references.Base.TheVariants.{Decimal, Hexadecimal}
use Rattle.title_markup.specs.declared.references.Reference.{Reference}
use Rattle.title_markup.specs.Endings.{ampersand, semicolon, is_closing, last_byte, last_bytes, from_last, has}
use Rattle.title_markup.specs.Names as names

-- ---- by number

abbrev pub radix : Base → ℕ
radix Decimal = 10
radix Hexadecimal = 16

abbrev pub are_digits : Base → Text → Bool
are_digits base t = not (length t == 0) && list_all (λ b. is_digit b (radix base)) t

-- after the last character; a greater number counts as this one
abbrev pub beyond : ℕ
beyond = 0x110000

abbrev pub value : Base → Text → ℕ
value base t = min (digits_value (radix base) t) beyond

-- a character, and neither NUL nor a surrogate
abbrev pub is_character : ℕ → Bool
is_character n = nat_lt 0 n && nat_lt n 0xd800 || nat_lt 0xdfff n && nat_lt n beyond

abbrev pub character : ℕ → Option ℕ
character n = if is_character n then Some n else None

abbrev pub number_in : Base → Text → Option ℕ
number_in base t = if are_digits base t then character (value base t) else None

-- what is after `#`: decimal digits, or `x` and hexadecimal ones
abbrev pub numbered : Text → Option ℕ
numbered [] = None
numbered (b ∷ t) = if b == 0x78 || b == 0x58 then number_in Hexadecimal t else number_in Decimal (b ∷ t)

-- ---- by name

-- of a list of names and one of characters, in the same order
abbrev pub listed : List Text → List ℕ → Text → Option ℕ
listed [] characters name = None
listed (other ∷ names) characters name = if bytes_eq other name then slice_get characters 0 else listed names (drop 1 characters) name

unfoldable pub named : Text → Option ℕ
named name =
    listed (names.latin_names ++ names.greek_names ++ names.marks_names)
    (names.latin_characters ++ names.greek_characters ++ names.marks_characters) name

-- ---- references

-- what is between `&` and `;`
abbrev pub character_of : Text → Option ℕ
character_of [] = None
character_of (b ∷ t) = if b == 0x23 then numbered t else named (b ∷ t)

abbrev pub body_of : Text → Text
body_of [] = []
body_of (b ∷ t) = take (length t - 1) t

abbrev pub reference_of : Text → Option Reference
reference_of t = option_map (λ c. record { len = length t; character = c }) (character_of (body_of t))

-- the reference with which a text ends
unfoldable pub reference_ending : Text → Option Reference
reference_ending t =
    if last_byte t == semicolon then option_and_then reference_of (from_last ampersand (last_bytes 10 t)) else None

-- ---- for laws

abbrev pub reference_with : Text → Text
reference_with body = ampersand ∷ body ++ semicolon ∷ []

-- this may be between the `&` and the `;` of a reference
abbrev pub is_body : Text → Bool
is_body body = nat_le (length body) 8 && not (has ampersand body) && not (list_any is_closing body)
