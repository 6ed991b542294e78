-- The numbers in a text, as the text spells them, and their order.
use Rattle.std.specs.Prelude.{ℕ, zero, suc, ◌-◌, ◌==◌, ◌||◌, ◌&&◌, not, nat_le, Bool, List, [], ◌∷◌, ◌++◌, Option, filter, take}
use Rattle.std.specs.Char.{is_ascii_digit}
use Rattle.std.specs.Option.{option_map_or}
use Rattle.text_model.specs.Texts.{Text}

-- `-`
abbrev pub hyphen : ℕ
hyphen = 0x2d

-- a space
abbrev pub space : ℕ
space = 0x20

-- `X`, the check digit for ten
abbrev pub ten : ℕ
ten = 0x58

-- a hyphen or a space: one of them may be between two digits
abbrev pub is_joint : ℕ → Bool
is_joint b = b == hyphen || b == space

-- a byte that may be the first of that many digits, of which the last may be `X`
abbrev pub is_next : ℕ → ℕ → Bool
is_next count b = nat_le 1 count && (is_ascii_digit b || (count == 1 && b == ten))

-- that many digits, of which the last may be `X`
abbrev pub are_digits : ℕ → Text → Bool
are_digits count [] = count == 0
are_digits count (b ∷ t) = is_next count b && are_digits (count - 1) t

-- the numbers from a place on, from left to right, of which none begins within another; length_at says how many bytes the number takes that
-- begins at a place, if one does, from the byte before that place and the text from there; `left` bytes still belong to the number before
abbrev pub spellings_from : (ℕ → Text → Option ℕ) → ℕ → ℕ → Text → List Text
spellings_from length_at left before [] = []
spellings_from length_at (suc left) before (b ∷ t) = spellings_from length_at left b t
spellings_from length_at zero before (b ∷ t) =
    option_map_or (λ n. take n (b ∷ t) ∷ spellings_from length_at (n - 1) b t) (length_at before (b ∷ t)) (spellings_from length_at zero b t)

-- the numbers in a text
abbrev pub spellings : (ℕ → Text → Option ℕ) → Text → List Text
spellings length_at t = spellings_from length_at 0 space t

-- the numbers with a right check digit before the others, each in their order
abbrev pub right_first : (Text → Bool) → List Text → List Text
right_first is_right numbers = filter is_right numbers ++ filter (λ number. not (is_right number)) numbers
