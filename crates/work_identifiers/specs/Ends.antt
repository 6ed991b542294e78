-- What sources write around an identifier.
use Rattle.std.specs.Prelude.{ℕ, zero, suc, ◌-◌, ◌==◌, ◌||◌, not, nat_le, nat_lt, Bool, [], length, take, drop, slice_index, if◌then◌else◌}
use Rattle.std.specs.List.{count_by, prefix_len, take_while}
use Rattle.text_model.specs.Texts.{Text}

-- a space or a control character, a quote (`"`, `'` or the grave accent), or `*`
abbrev pub is_around : ℕ → Bool
is_around b = nat_le b 0x20 || b == 0x22 || b == 0x27 || b == 0x60 || b == 0x2a

-- one of these, an opening bracket, or `:`, `=` or `#` after a word
abbrev pub is_before : ℕ → Bool
is_before b = is_around b || b == 0x28 || b == 0x5b || b == 0x7b || b == 0x3c || b == 0x3a || b == 0x3d || b == 0x23

-- one of these, or one of `.,;:!?`
abbrev pub is_after : ℕ → Bool
is_after b = is_around b || b == 0x2e || b == 0x2c || b == 0x3b || b == 0x3a || b == 0x21 || b == 0x3f

-- the text from the first byte that may belong to an identifier
abbrev pub from_start : Text → Text
from_start text = drop (prefix_len is_before text) text

-- the opening bracket of a closing one; any other byte itself
abbrev pub opening_of : ℕ → ℕ
opening_of b = if b == 0x29 then 0x28 else (if b == 0x5d then 0x5b else (if b == 0x7d then 0x7b else (if b == 0x3e then 0x3c else b)))

abbrev pub count_of : ℕ → Text → ℕ
count_of b text = count_by (λ c. c == b) text

-- the text has more of this closing bracket than of opening ones
abbrev pub is_unopened : ℕ → Text → Bool
is_unopened b text = nat_lt (count_of (opening_of b) text) (count_of b text)

-- the last byte belongs to no identifier
abbrev pub ends_loosely : Text → Bool
ends_loosely text = let last = slice_index text (length text - 1) in is_after last || is_unopened last text

-- the longest beginning, of at most that many bytes, that does not end loosely
abbrev pub cut_at : ℕ → Text → Text
cut_at zero text = []
cut_at (suc n) text = if ends_loosely (take (suc n) text) then cut_at n text else take (suc n) text

abbrev pub to_end : Text → Text
to_end text = cut_at (length text) text

-- a space or a control character, or one of `/?#&,;`
abbrev pub is_break : ℕ → Bool
is_break b = nat_le b 0x20 || b == 0x2f || b == 0x3f || b == 0x23 || b == 0x26 || b == 0x2c || b == 0x3b

abbrev pub is_no_break : ℕ → Bool
is_no_break b = not (is_break b)

-- the text up to the first of these
abbrev pub first_part : Text → Text
first_part text = take_while is_no_break text
