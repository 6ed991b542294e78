-- How texts of unknown bytes are printed.
use Rattle.std.specs.Prelude.{ℕ, ◌/◌, ◌%◌, Bool, false, ◌&&◌, ◌==◌, not, nat_le, [], ◌∷◌, ◌++◌, take, length, codes, if◌then◌else◌}
use Rattle.std.specs.List.{flat_map}
use Rattle.std.specs.Fmt.{digits}
use Rattle.text_model.specs.Texts.{Text}
use Rattle.printed_text.specs.declared.quoting.TheConstants.{MAX_SHOWN}

abbrev pub quotation_mark : ℕ
quotation_mark = 0x22

abbrev pub backslash : ℕ
backslash = 0x5c

-- a printable character of ASCII
abbrev pub is_visible : ℕ → Bool
is_visible b = nat_le 0x20 b && nat_le b 0x7e

-- a printable character of ASCII that is neither of these
abbrev pub is_plain : ℕ → Bool
is_plain b = nat_le 0x20 b && (nat_le b 0x7e && (not (b == quotation_mark) && not (b == backslash)))

-- `\x` and two hexadecimal digits
abbrev pub escape : ℕ → Text
escape b = codes "\\x" ++ (digits 16 false (b / 16) ++ digits 16 false (b % 16))

-- how a byte is printed between quotation marks
abbrev pub byte_text : ℕ → Text
byte_text b = if is_plain b then (b ∷ []) else escape b

-- how a byte is printed without quotation marks
abbrev pub visible_byte : ℕ → Text
visible_byte b = if is_visible b then (b ∷ []) else escape b

-- a text between quotation marks
abbrev pub quoted : Text → Text
quoted text = quotation_mark ∷ flat_map byte_text text ++ quotation_mark ∷ []

-- a text between quotation marks, cut if it is long
abbrev pub shortened : Text → Text
shortened text = if nat_le (length text) MAX_SHOWN then quoted text else quoted (take MAX_SHOWN text) ++ codes "..."

-- a text without quotation marks
abbrev pub visible : Text → Text
visible text = flat_map visible_byte text
