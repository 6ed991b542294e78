-- What is known about the names of a request, and one more.
use Rattle.std.proofs.Common.{◌≡◌, ℕ, zero, suc, List, [], ◌∷◌, Option, Some, slice_get, slice_set, refl, ap, inl, inr, ◌⊎◌, arith}
use Rattle.std.proofs.Math.Logic.{⊎_elim}
use Rattle.row_scope.specs.RowValue.{KnownValue}
use Rattle.row_scope.specs.Private.Kept.{AreKnown, IsKnown}
use Rattle.row_scope.specs.declared.known_values.KnownName.{KnownName}

after_set : {X : Type 0} (xs : List X) (n : ℕ) (y : X) (i : ℕ) (x : X) → slice_get (slice_set xs n y) i ≡ Some x
    → ((i ≡ n) × (y ≡ x)) ⊎ (slice_get xs i ≡ Some x)
after_set [] n y i x is = inr is
after_set (z ∷ xs) zero y zero x is = inl (refl, cc)
after_set (z ∷ xs) zero y (suc i) x is = inr is
after_set (z ∷ xs) (suc n) y zero x is = inr is
after_set (z ∷ xs) (suc n) y (suc i) x is = ⊎_elim (λ at. inl (ap suc at.0, at.1)) (λ old. inr old) (after_set xs n y i x is)

pub one_more_known : (known : KnownValue) (names : List (Option KnownName)) (number : ℕ) (k : KnownName) → AreKnown known names → IsKnown known number k
    → AreKnown known (slice_set names number (Some k))
one_more_known known names number k old its = grind (arith, after_set)
