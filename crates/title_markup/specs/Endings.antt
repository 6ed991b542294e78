-- The end of a text.
use Rattle.std.specs.Prelude.{ℕ, ◌-◌, ◌==◌, ◌||◌, Bool, [], ◌∷◌, length, drop, slice_index, Option, Some, None, if◌then◌else◌}
use Rattle.std.specs.List.{list_any}
use Rattle.text_model.specs.Texts.{Text}

-- ---- bytes with which markup begins and ends

-- `<` and `>`, of tags
abbrev pub opening : ℕ
opening = 0x3c

abbrev pub closing : ℕ
closing = 0x3e

-- `&` and `;`, of references
abbrev pub ampersand : ℕ
ampersand = 0x26

abbrev pub semicolon : ℕ
semicolon = 0x3b

-- a byte with which markup may end
abbrev pub is_closing : ℕ → Bool
is_closing b = b == closing || b == semicolon

-- ---- ends

-- the last byte, and NUL if there is none
abbrev pub last_byte : Text → ℕ
last_byte t = slice_index t (length t - 1)

-- at most that many bytes at the end
abbrev pub last_bytes : ℕ → Text → Text
last_bytes n t = drop (length t - n) t

abbrev pub or_other : Option Text → Option Text → Option Text
or_other None other = other
or_other (Some t) other = Some t

-- the text from its last byte of this kind on
abbrev pub from_last : ℕ → Text → Option Text
from_last mark [] = None
from_last mark (b ∷ t) = or_other (from_last mark t) (if b == mark then Some (b ∷ t) else None)

-- a byte of this kind is in the text
abbrev pub has : ℕ → Text → Bool
has mark t = list_any (λ b. b == mark) t
