-- The number that a text begins with.
use Rattle.std.specs.Prelude.{ℕ, ◌+◌, ◌-◌, ◌*◌, ◌&&◌, nat_le, [], ◌∷◌, Option, Some, None, length, take_while, if◌then◌else◌}
use Rattle.std.specs.Char.{is_ascii_digit}
use Rattle.text_model.specs.Texts.{Text}

-- `0`, from which digits count
abbrev pub digit_zero : ℕ
digit_zero = 0x30

-- the leading run of decimal digits
abbrev pub leading_digits : Text → Text
leading_digits t = take_while is_ascii_digit t

-- the value of decimal digits that follow those of n
unfoldable pub value_from : ℕ → Text → ℕ
value_from n [] = n
value_from n (b ∷ t) = value_from (10 * n + (b - digit_zero)) t

-- the value of the leading run of digits if that run has 1 to 9 digits
unfoldable pub leading_number : Text → Option ℕ
leading_number t =
    if nat_le 1 (length (leading_digits t)) && nat_le (length (leading_digits t)) 9
    then Some (value_from 0 (leading_digits t)) else None
