-- The targets whose tables have several parts: `press.2` to `press.999` are parts of `press`.
use Rattle.std.specs.Prelude.{ℕ, ◌+◌, ◌-◌, Bool, not, ◌&&◌, ◌==◌, nat_eq, nat_lt, codes, length, slice_index, take, drop, if◌then◌else◌}
use Rattle.std.specs.Char.{is_ascii_digit}
use Rattle.std.specs.List.{list_all, starts_with}
use Rattle.std.specs.Str.{bytes_eq}
use Rattle.text_model.specs.Texts.{Text}

abbrev pub are_digits : Text → Bool
are_digits number = list_all is_ascii_digit number

-- digits without a zero before them, and not 1
abbrev pub is_part_number : Text → Bool
is_part_number number = are_digits number && not (starts_with nat_eq number (codes "0")) && not (bytes_eq number (codes "1"))

-- the name ends with `.` and such a number of that many digits, and something is before them
abbrev pub has_number : ℕ → Text → Bool
has_number digits name =
    nat_lt (digits + 1) (length name) && (slice_index name (length name - digits - 1) == 0x2e) && is_part_number (drop (length name - digits) name)

-- how many digits the number of a part has, from 2 to 999; 0 if there is none
abbrev pub number_digits : Text → ℕ
number_digits name = if has_number 1 name then 1 else (if has_number 2 name then 2 else (if has_number 3 name then 3 else 0))

-- the target that a name of the registry is a part of
abbrev pub target_of : Text → Text
target_of name = let digits = number_digits name in if digits == 0 then name else take (length name - digits - 1) name
