-- Lists that are filtered twice.
use Rattle.std.proofs.Common.{◌≡◌, Bool, true, false, ◌&&◌, ◌||◌, cond, List, [], ◌∷◌, filter, refl, ap, ◌∙◌}
use Rattle.std.specs.List.{list_any}

module _ {X : Type 0} (p q : X → Bool) where
  -- a test that is stricter decides alone
  pub filter_within : ((x : X) → p x ≡ true → q x ≡ true) → (xs : List X) → filter p (filter q xs) ≡ filter p xs
  filter_within h [] = refl
  filter_within h (x ∷ xs) = by_test (q x) refl (p x) refl (filter_within h xs)
    where
      by_test : (b : Bool) → q x ≡ b → (c : Bool) → p x ≡ c → filter p (filter q xs) ≡ filter p xs
          → filter p (cond b (x ∷ filter q xs) (filter q xs)) ≡ cond c (x ∷ filter p xs) (filter p xs)
      by_test true e true g s = rw g (ap (λ r. x ∷ r) s)
      by_test true e false g s = rw g s
      by_test false e true g s = let both : q x ≡ true = h x g in cc
      by_test false e false g s = s

  -- the order of tests does not matter
  pub filter_swaps : (xs : List X) → filter p (filter q xs) ≡ filter q (filter p xs)
  filter_swaps [] = refl
  filter_swaps (x ∷ xs) = by_test (q x) refl (p x) refl (filter_swaps xs)
    where
      by_test : (b : Bool) → q x ≡ b → (c : Bool) → p x ≡ c → filter p (filter q xs) ≡ filter q (filter p xs)
          → filter p (cond b (x ∷ filter q xs) (filter q xs)) ≡ filter q (cond c (x ∷ filter p xs) (filter p xs))
      by_test true e true g s = rw (e, g) (ap (λ r. x ∷ r) s)
      by_test true e false g s = rw g s
      by_test false e true g s = rw e s
      by_test false e false g s = s

  -- what passes a stricter test is not taken away
  pub any_within : ((x : X) → p x ≡ true → q x ≡ true) → (xs : List X) → list_any p (filter q xs) ≡ list_any p xs
  any_within h [] = refl
  any_within h (x ∷ xs) = by_test (q x) refl (p x) refl (any_within h xs)
    where
      by_test : (b : Bool) → q x ≡ b → (c : Bool) → p x ≡ c → list_any p (filter q xs) ≡ list_any p xs
          → list_any p (cond b (x ∷ filter q xs) (filter q xs)) ≡ (p x || list_any p xs)
      by_test true e c g s = ap (λ r. p x || r) s
      by_test false e true g s = let both : q x ≡ true = h x g in cc
      by_test false e false g s = rw g s

  -- equal tests
  pub filter_same : ((x : X) → p x ≡ q x) → (xs : List X) → filter p xs ≡ filter q xs
  filter_same h [] = refl
  filter_same h (x ∷ xs) = ap (λ b. cond b (x ∷ filter p xs) (filter p xs)) (h x) ∙ ap (λ r. cond (q x) (x ∷ r) r) (filter_same h xs)

-- two tests as one
pub filter_both : {X : Type 0} (p q r : X → Bool) → ((x : X) → r x ≡ (p x && q x)) → (xs : List X) → filter p (filter q xs) ≡ filter r xs
filter_both p q r h [] = refl
filter_both p q r h (x ∷ xs) = by_test (q x) refl (p x) refl (filter_both p q r h xs)
  where
    by_test : (b : Bool) → q x ≡ b → (c : Bool) → p x ≡ c → filter p (filter q xs) ≡ filter r xs
        → filter p (cond b (x ∷ filter q xs) (filter q xs)) ≡ cond (r x) (x ∷ filter r xs) (filter r xs)
    by_test true e true g s = rw (h x, e, g) (ap (λ l. x ∷ l) s)
    by_test true e false g s = rw (h x, e, g) s
    by_test false e true g s = rw (h x, e, g) s
    by_test false e false g s = rw (h x, e, g) s
