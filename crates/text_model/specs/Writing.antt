-- How a text is percent-encoded in a link (RFC 6570, sections 1.5 and 3.2.1).
use Rattle.std.specs.Prelude.{ℕ, ◌+◌, ◌-◌, ◌/◌, ◌%◌, [], ◌∷◌, ◌++◌, Bool, ◌||◌, nat_lt, if◌then◌else◌}
use Rattle.text_model.specs.Texts.{Text, percent, is_unreserved, is_reserved, is_triplet}
use Rattle.text_model.specs.declared.writing.Writing.{Writing}
use Rattle.text_model.specs.declared.writing.Writing.TheVariants.{U, UR}

-- a hexadecimal digit, in upper case: `0` and those after it, then `A` and those after it
abbrev pub hexadecimal_digit : ℕ → ℕ
hexadecimal_digit n = if nat_lt (n % 16) 10 then 0x30 + n % 16 else 0x41 - 10 + n % 16

-- `%` and the two hexadecimal digits of a byte
abbrev pub triplet_of : ℕ → Text
triplet_of b = percent ∷ hexadecimal_digit (b / 16) ∷ hexadecimal_digit b ∷ []

-- a byte: copied if it may stay, and otherwise as its triplet
abbrev pub written_byte : Bool → ℕ → Text
written_byte stays b = if stays then (b ∷ []) else triplet_of b

-- U: an unreserved byte is copied
unfoldable pub written_u : Text → Text
written_u [] = []
written_u (b ∷ t) = written_byte (is_unreserved b) b ++ written_u t

abbrev pub is_unreserved_or_reserved : ℕ → Bool
is_unreserved_or_reserved b = is_unreserved b || is_reserved b

-- UR: a whole triplet is copied, and so is an unreserved or a reserved byte
unfoldable pub written_ur : Text → Text
written_ur [] = []
written_ur (b ∷ []) = written_byte (is_unreserved_or_reserved b) b
written_ur (b ∷ c ∷ []) = written_byte (is_unreserved_or_reserved b) b ++ written_byte (is_unreserved_or_reserved c) c
written_ur (b ∷ high ∷ low ∷ t) =
    if is_triplet b high low then (b ∷ high ∷ low ∷ written_ur t)
    else (written_byte (is_unreserved_or_reserved b) b ++ written_ur (high ∷ low ∷ t))

abbrev pub written : Writing → Text → Text
written U t = written_u t
written UR t = written_ur t
