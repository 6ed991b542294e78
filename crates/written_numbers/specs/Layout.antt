-- The characters of identifiers, by the code charts of the Unicode Standard.
use Rattle.std.specs.Prelude.{ℕ, List, [], ◌∷◌, chars, encode_utf8, if◌then◌else◌}
use Rattle.std.specs.List.{flat_map}
use Rattle.text_model.specs.Texts.{Text}
use Rattle.written_numbers.specs.Characters.{Range, is_in, line_feed}

-- spaces, joiners, hyphens and quotation marks that are not those of ASCII
unfoldable pub layout : List Range
layout =
    (0xa0, 0xa0) ∷ (0xab, 0xab) ∷ (0xad, 0xad) ∷ (0xbb, 0xbb) ∷ (0x2000, 0x200d) ∷ (0x2018, 0x201f) ∷ (0x202f, 0x202f) ∷
    (0x2039, 0x203a) ∷ (0x205f, 0x2060) ∷ (0x3000, 0x3000) ∷ (0xfeff, 0xfeff) ∷ []

-- carriage return, line separator and paragraph separator, which end a line as line feed does
unfoldable pub breaks : List Range
breaks = (0xd, 0xd) ∷ (0x2028, 0x2029) ∷ []

unfoldable pub unbroken : ℕ → ℕ
unbroken c = if is_in breaks c then line_feed else c

-- what is written for a character of an identifier
unfoldable pub identifier_character : ℕ → Text
identifier_character c = if is_in layout c then [] else encode_utf8 (unbroken c)

-- the text with what is written for each character
unfoldable pub without_layout : Text → Text
without_layout text = flat_map identifier_character (chars text)
