-- The sums of check digits.
use Rattle.std.specs.Prelude.{ℕ, ◌+◌, ◌-◌, ◌*◌, ◌==◌, [], ◌∷◌, if◌then◌else◌}
use Rattle.text_model.specs.Texts.{Text}
use Rattle.standard_numbers.specs.Spellings.{ten}

-- the value of a digit; that of `X` is ten
abbrev pub value : ℕ → ℕ
value b = if b == ten then 10 else b - 0x30

-- the first value times the weight, the next one times one less, and so on: in an ISSN (ISO 3297) and an ISBN of ten digits (ISO 2108), whose
-- last digit has the weight 1, all together are a multiple of 11
abbrev pub weighted : ℕ → Text → ℕ
weighted weight [] = 0
weighted weight (b ∷ t) = weight * value b + weighted (weight - 1) t

-- the values times 1 and 3 in turn: in an ISBN of 13 digits (ISO 2108) a multiple of 10
abbrev pub alternating : ℕ → Text → ℕ
alternating weight [] = 0
alternating weight (b ∷ t) = weight * value b + alternating (4 - weight) t
