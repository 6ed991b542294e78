-- The first place at which something is found.
use Rattle.std.specs.Prelude.{ℕ, zero, suc, Option, Some, None}

-- a place, and what is found there
pub record Located (X : Type 0) : Type 0 where
  pub place : ℕ
  pub what : X

abbrev pub located : {X : Type 0} → ℕ → Option X → Option (Located X)
located place None = None
located place (Some x) = Some (record { place = place; what = x })

abbrev pub or_else : {X : Type 0} → Option X → Option X → Option X
or_else None other = other
or_else (Some x) other = Some x

-- the first of the places below n at which f finds something
unfoldable pub first_below : {X : Type 0} → (ℕ → Option X) → ℕ → Option (Located X)
first_below f zero = None
first_below f (suc n) = or_else (first_below f n) (located n (f n))
