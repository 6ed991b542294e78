-- Texts of sources as they are shown.
use Rattle.std.specs.Prelude.{ℕ, Bool, false, ◌&&◌, ◌||◌, ◌==◌, nat_lt, [], ◌∷◌, slice_index, if◌then◌else◌}
use Rattle.text_model.specs.Texts.{Text}
use Rattle.printed_text.specs.Printed.{visible}

-- a control character of ASCII
abbrev pub is_control : ℕ → Bool
is_control b = nat_lt b 0x20 || b == 0x7f

-- one of the others, U+0080 to U+009F, as UTF-8 has them: C2, and a byte below A0
abbrev pub begins_with_control : Text → Bool
begins_with_control text = (slice_index text 0 == 0xc2) && nat_lt (slice_index text 1) 0xa0

abbrev pub has_control : Text → Bool
has_control [] = false
has_control (b ∷ text) = is_control b || begins_with_control (b ∷ text) || has_control text

-- with a control character all bytes are printable ASCII, and others are escaped
abbrev pub shown : Text → Text
shown text = if has_control text then visible text else text
