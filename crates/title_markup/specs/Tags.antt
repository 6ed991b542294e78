-- Tags (HTML Living Standard, section 13.1.2; NISO JATS and MathML write them so too).
use Rattle.std.specs.Prelude.{ℕ, ◌+◌, ◌-◌, ◌==◌, ◌||◌, ◌&&◌, not, nat_le, Bool, false, [], ◌∷◌, ◌++◌, length, take, drop}
use Rattle.std.specs.Prelude.{Option, Some, None, if◌then◌else◌}
use Rattle.std.specs.Char.{is_ascii_alphabetic, is_ascii_alphanumeric}
use Rattle.std.specs.List.{list_any, prefix_len, suffix_len}
use Rattle.std.specs.Option.{option_and_then}
use Rattle.text_model.specs.Texts.{Text}
use Rattle.title_markup.specs.Endings.{opening, closing, is_closing, last_byte, last_bytes, from_last, has}

-- ---- names

-- a letter, a digit, `:` or `-`
abbrev pub is_name_byte : ℕ → Bool
is_name_byte b = is_ascii_alphanumeric b || b == 0x3a || b == 0x2d

abbrev pub name_length : Text → ℕ
name_length t = prefix_len is_name_byte t

abbrev pub begins_with_letter : Text → Bool
begins_with_letter [] = false
begins_with_letter (b ∷ t) = is_ascii_alphabetic b

-- at most 20 bytes, the first one a letter
unfoldable pub begins_with_name : Text → Bool
begins_with_name t = begins_with_letter t && nat_le (name_length t) 20

-- ---- tags

abbrev pub begins : ℕ → Text → Bool
begins mark [] = false
begins mark (b ∷ t) = b == mark

-- without a `/` at its beginning
abbrev pub unslashed : Text → Text
unslashed [] = []
unslashed (b ∷ t) = if b == 0x2f then t else b ∷ t

-- `>` is the last byte, and no other one
abbrev pub closes : Text → Bool
closes t = prefix_len (λ b. not (b == closing)) t + 1 == length t

-- what may follow a name: `>`, `/>`, or a space and at most 200 bytes before `>`
unfoldable pub ends_tag : Text → Bool
ends_tag t = closes t && (nat_le (length t) 1 || begins 0x2f t && nat_le (length t) 2 || begins 0x20 t && nat_le (length t) 202)

unfoldable pub is_inside : Text → Bool
is_inside t = begins_with_name t && ends_tag (drop (name_length t) t)

-- `<sub>`, `</i>`, `<br/>`, `<jats:p xml:lang="en">`; the text has no other `<`
abbrev pub is_tag : Text → Bool
is_tag [] = false
is_tag (b ∷ t) = b == opening && is_inside (unslashed t)

abbrev pub tag_of : Text → Option ℕ
tag_of t = if is_tag t then Some (length t) else None

-- how many bytes the tag has with which a text ends
unfoldable pub tag_length : Text → Option ℕ
tag_length t = if last_byte t == closing then option_and_then tag_of (from_last opening (last_bytes 224 t)) else None

-- in a text that ends with `>`, a tag at its end begins with the last bracket before that
abbrev pub is_bracket : ℕ → Bool
is_bracket b = b == opening || b == closing

-- the text without its last byte
abbrev pub unended : Text → Text
unended t = take (length t - 1) t

-- how many bytes are after the last bracket
abbrev pub inner_length : Text → ℕ
inner_length t = suffix_len (λ b. not (is_bracket b)) t

-- from the last bracket before the last byte on; without one, all
abbrev pub from_bracket : Text → Text
from_bracket t = drop (length (unended t) - inner_length (unended t) - 1) t

-- ---- for laws

-- what is between the brackets of a tag
abbrev pub tag_with : Text → Text
tag_with inner = opening ∷ inner ++ closing ∷ []

-- a tag with this between its brackets, in which there is no other bracket and no `;`
abbrev pub is_tag_with : Text → Bool
is_tag_with inner = is_tag (tag_with inner) && not (has opening inner) && not (list_any is_closing inner)
