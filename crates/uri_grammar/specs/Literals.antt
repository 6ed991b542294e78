-- Literals (RFC 6570, section 2.1), over characters.
use Rattle.std.specs.Prelude.{◌≡◌, ℕ, ◌%◌, ◌==◌, Bool, true, false, ◌||◌, ◌&&◌, nat_le, List, [], ◌∷◌}
use Rattle.text_model.specs.Texts.{is_triplet, begins_with_triplet}

abbrev pub is_between : ℕ → ℕ → ℕ → Bool
is_between low high c = nat_le low c && nat_le c high

-- ucschar (RFC 6570, section 1.5): characters beyond ASCII, without the last two of each plane
abbrev pub is_ucschar : ℕ → Bool
is_ucschar c =
    is_between 0xA0 0xD7FF c || is_between 0xF900 0xFDCF c || is_between 0xFDF0 0xFFEF c
    || (is_between 0x1_0000 0xD_FFFD c && nat_le (c % 0x1_0000) 0xFFFD) || is_between 0xE_1000 0xE_FFFD c

-- iprivate (RFC 6570, section 1.5)
abbrev pub is_iprivate : ℕ → Bool
is_iprivate c = is_between 0xE000 0xF8FF c || is_between 0xF_0000 0xF_FFFD c || is_between 0x10_0000 0x10_FFFD c

-- a character that denotes itself: all of ASCII except controls, space and "%<>\^`{|}; the apostrophe is included
unfoldable pub is_literal_character : ℕ → Bool
is_literal_character c =
    c == 0x21 || is_between 0x23 0x24 c || is_between 0x26 0x3B c || c == 0x3D || is_between 0x3F 0x5B c || c == 0x5D || c == 0x5F
    || is_between 0x61 0x7A c || c == 0x7E || is_ucschar c || is_iprivate c

-- literals = character / ucschar / iprivate / pct-encoded, any number of them
pub data AreLiterals : List ℕ → Type 0 where
  no_literals : AreLiterals []
  literal_character : (c : ℕ) (cs : List ℕ) → is_literal_character c ≡ true → AreLiterals cs → AreLiterals (c ∷ cs)
  literal_triplet : (c high low : ℕ) (cs : List ℕ) → is_triplet c high low ≡ true → AreLiterals cs → AreLiterals (c ∷ high ∷ low ∷ cs)

-- a literal is at the beginning: one character, or one triplet
abbrev pub begins_with_literal : List ℕ → Bool
begins_with_literal [] = false
begins_with_literal (c ∷ cs) = is_literal_character c || begins_with_triplet (c ∷ cs)
