-- Random keys of tables.
use Rattle.std.specs.Prelude.{◌≡◌, ℕ}
use Rattle.kbart_rows.specs.Hashing.{hasher_at_start, keyed}
use Rattle.kbart_rows.specs.declared.keys.Keys.{Keys}

-- between two states of a source, the keys were made of two numbers that it drew
abbrev pub IsDrawn : {K : Type 0} → (K → ℕ → ℕ → K → Type 0) → K → Keys → K → Type 0
IsDrawn draws old keys new = (first : ℕ) × (second : ℕ) × (hasher_at_start keys ≡ keyed first second) × draws old first second new
