-- What leads the values of its key leads them again.
use Rattle.std.proofs.Common.{◌≡◌, ℕ, zero, suc, List, [], ◌∷◌, ◌++◌, take, Bool, true, false, cond, Option, Some, None, refl, ap, ◌∙◌, inl, inr, ◌⊎◌}
use Rattle.std.specs.Prelude.{is_some, slice_get}
use Rattle.std.specs.List.{flat_map}
use Rattle.std.specs.Str.{bytes_eq}
use Rattle.text_model.specs.Texts.{Text}
use Rattle.openurl_reading.specs.Steps.{unchanged, leading}
use Rattle.openurl_reading.specs.Values.{led}
use Rattle.openurl_reading.proofs.Settled.{led-same}
use Rattle.openurl_reading.proofs.Values.{values_after}

-- something that is found in values is found again before them, or nothing is
abbrev pub IsFoundAgain : (List Text → Option Text) → List Text → Type 0
IsFoundAgain find values = (n : Text) → find values ≡ Some n → (find (n ∷ values) ≡ Some n) ⊎ (find (n ∷ values) ≡ None)

pub led_again : (found : Option Text) (n : Text) → (found ≡ Some n) ⊎ (found ≡ None) → led found (Some n) ≡ unchanged
led_again found n (inl e) = ap (λ o. led o (Some n)) e ∙ led-same (Some n)
led_again found n (inr e) = ap (λ o. led o (Some n)) e

pub led_settles : (find : List Text → Option Text) (values : List Text) → IsFoundAgain find values
    → led (find (values_after (led (find values) (slice_get values 0)) values)) (slice_get (values_after (led (find values) (slice_get values 0)) values) 0)
    ≡ unchanged
led_settles find values again = by_found (find values) (slice_get values 0) refl refl again
  where
    by_found : (found first : Option Text) → find values ≡ found → slice_get values 0 ≡ first
        → ((n : Text) → found ≡ Some n → (find (n ∷ values) ≡ Some n) ⊎ (find (n ∷ values) ≡ None))
        → led (find (values_after (led found first) values)) (slice_get (values_after (led found first) values) 0) ≡ unchanged
    by_found None first e g h = ap (λ o. led o (slice_get values 0)) e
    by_found (Some n) None e g h = led_again (find (n ∷ values)) n (h n refl)
    by_found (Some n) (Some v) e g h = by_test (bytes_eq v n) refl
      where
        by_test : (b : Bool) → bytes_eq v n ≡ b
            → led (find (values_after (cond b unchanged (leading (n ∷ []))) values))
            (slice_get (values_after (cond b unchanged (leading (n ∷ []))) values) 0) ≡ unchanged
        by_test true t = ap (λ m. led m (slice_get values 0)) e ∙ ap (λ m. led (Some n) m) g ∙ ap (λ b. cond b unchanged (leading (n ∷ []))) t
        by_test false t = led_again (find (n ∷ values)) n (h n refl)

pub led-keeps : (found first : Option Text) → (led found first).keeps ≡ true
led-keeps None first = refl
led-keeps (Some n) None = refl
led-keeps (Some n) (Some v) = by_test (bytes_eq v n)
  where
    by_test : (b : Bool) → (cond b unchanged (leading (n ∷ []))).keeps ≡ true
    by_test true = refl
    by_test false = refl

-- ---- the first of what is found in the first values

-- with one value less, it is the same, or nothing is found
fewer : (f : Text → List Text) (values : List Text) (k : ℕ)
    → (slice_get (flat_map f (take k values)) 0 ≡ slice_get (flat_map f (take (suc k) values)) 0) ⊎ (slice_get (flat_map f (take k values)) 0 ≡ None)
fewer f values zero = inr refl
fewer f [] (suc k) = inl refl
fewer f (v ∷ vs) (suc k) = by_found (f v) (fewer f vs k)
  where
    by_found : (found : List Text)
        → (slice_get (flat_map f (take k vs)) 0 ≡ slice_get (flat_map f (take (suc k) vs)) 0) ⊎ (slice_get (flat_map f (take k vs)) 0 ≡ None)
        → (slice_get (found ++ flat_map f (take k vs)) 0 ≡ slice_get (found ++ flat_map f (take (suc k) vs)) 0)
        ⊎ (slice_get (found ++ flat_map f (take k vs)) 0 ≡ None)
    by_found [] rest = rest
    by_found (x ∷ xs) rest = inl refl

pub first_again : (f : Text → List Text) (values : List Text) (k : ℕ) (n : Text)
    → slice_get (flat_map f (take (suc k) values)) 0 ≡ Some n → (f n ≡ n ∷ []) ⊎ (f n ≡ [])
    → (slice_get (flat_map f (take (suc k) (n ∷ values))) 0 ≡ Some n) ⊎ (slice_get (flat_map f (take (suc k) (n ∷ values))) 0 ≡ None)
first_again f values k n e (inl one) = inl (ap (λ found. slice_get (found ++ flat_map f (take k values)) 0) one)
first_again f values k n e (inr none) =
    let same = ap (λ found. slice_get (found ++ flat_map f (take k values)) 0) none in
    elim (fewer f values k) [ inl again ↦ inl (same ∙ again ∙ e) | inr nothing ↦ inr (same ∙ nothing) ]

-- ---- whether there are values

-- there is a value
abbrev pub are_some : List Text → Bool
are_some values = is_some (slice_get values 0)

-- what leads is found in values, so there are some before it
pub led_some : (found : Option Text) (values : List Text) → (values ≡ [] → found ≡ None)
    → are_some (values_after (led found (slice_get values 0)) values) ≡ are_some values
led_some found [] none = ap (λ o. are_some (values_after (led o None) [])) (none refl)
led_some None (v ∷ vs) none = refl
led_some (Some n) (v ∷ vs) none = by_test (bytes_eq v n)
  where
    by_test : (b : Bool) → are_some (values_after (cond b unchanged (leading (n ∷ []))) (v ∷ vs)) ≡ true
    by_test true = refl
    by_test false = refl
