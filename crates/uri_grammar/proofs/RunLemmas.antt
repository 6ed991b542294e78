-- Texts that are split in only one way: at the first place of a character, and after a run of items.
use Rattle.std.proofs.Common.{◌≡◌, ◌≢◌, ℕ, ◌<◌, ◌≤◌, List, [], ◌∷◌, ◌++◌, length, refl, ap, ◌∙◌, sym, subst, arith, append_assoc, append-nil, length-append}
use Rattle.std.proofs.lemmas.List.Elements.{All-head, All-tail}
use Rattle.std.proofs.lemmas.Grind.{common_steps}
use Rattle.text_model.proofs.Lists.{same_halves}
use Rattle.uri_grammar.specs.Specs.{Lacks}

-- a text is split at the first place of a character in only one way
pub split_same : (c : ℕ) (xs ys a b : List ℕ) → Lacks c xs → Lacks c ys → xs ++ c ∷ a ≡ ys ++ c ∷ b → (xs ≡ ys) × (a ≡ b)
split_same c [] [] a b h k e = (refl, cc)
split_same c [] (y ∷ ys) a b h k e = absurd (All-head (λ x. x ≢ c) y ys k (let same : y ≡ c = cc in same))
split_same c (x ∷ xs) [] a b h k e = absurd (All-head (λ x. x ≢ c) x xs h (let same : x ≡ c = cc in same))
split_same c (x ∷ xs) (y ∷ ys) a b h k e =
    let tail : xs ++ c ∷ a ≡ ys ++ c ∷ b = cc in
    let rest = split_same c xs ys a b (All-tail (λ z. z ≢ c) x xs h) (All-tail (λ z. z ≢ c) y ys k) tail in
    (let same : xs ≡ ys = rest.0 in cc, rest.1)

-- a text without the character is not split at it
pub lacks_split : (c : ℕ) (xs ys b : List ℕ) → Lacks c xs → xs ≡ ys ++ c ∷ b → ⊥
lacks_split c [] [] b h e = cc
lacks_split c [] (y ∷ ys) b h e = cc
lacks_split c (x ∷ xs) [] b h e = All-head (λ z. z ≢ c) x xs h (let same : x ≡ c = cc in same)
lacks_split c (x ∷ xs) (y ∷ ys) b h e = lacks_split c xs ys b (All-tail (λ z. z ≢ c) x xs h) (let tail : xs ≡ ys ++ c ∷ b = cc in tail)

-- items, given a function for the length of the item at the beginning of a text, 0 if there is none
pub data Run (item : List ℕ → ℕ) : List ℕ → Type 0 where
  no_item : Run item []
  next_item : (front rest : List ℕ) → 0 < length front → ((x : List ℕ) → item (front ++ x) ≡ length front) → Run item rest → Run item (front ++ rest)

pub item-Run : (item : List ℕ → ℕ) (xs x : List ℕ) → Run item xs → 0 < length xs → 0 < item (xs ++ x)
item-Run item xs x no_item l = absurd (omega arith)
item-Run item xs x (next_item front rest pos is more) l = grind (arith, common_steps)

-- a run of items that no item follows is the longest, and so the only one
pub run_same : (item : List ℕ → ℕ) (xs ys a b : List ℕ) → Run item xs → Run item ys → xs ++ a ≡ ys ++ b → item a ≡ 0 → item b ≡ 0 → (xs ≡ ys) × (a ≡ b)
run_same item xs ys a b no_item no_item e p q = (refl, e)
run_same item xs ys a b no_item (next_item g s k j rest) e p q =
    let size : item a ≡ length g = ap item (e ∙ append_assoc g s b) ∙ j (s ++ b) in absurd (omega (arith, size, p, k))
run_same item xs ys a b (next_item f r l i more) no_item e p q =
    let size : item b ≡ length f = ap item (sym e ∙ append_assoc f r a) ∙ i (r ++ a) in absurd (omega (arith, size, q, l))
run_same item xs ys a b (next_item f r l i more) (next_item g s k j rest) e p q =
    let whole : f ++ (r ++ a) ≡ g ++ (s ++ b) = sym (append_assoc f r a) ∙ (e ∙ append_assoc g s b) in
    let size : length f ≡ length g = sym (i (r ++ a)) ∙ (ap item whole ∙ j (s ++ b)) in
    let fronts = same_halves f g (r ++ a) (s ++ b) size whole in
    let rests = run_same item r s a b more rest fronts.1 p q in
    (let here : f ≡ g = fronts.0 in let there : r ≡ s = rests.0 in cc, rests.1)

-- and no other run is longer
pub run_longest : (item : List ℕ → ℕ) (xs ys a b : List ℕ) → Run item xs → Run item ys → xs ++ a ≡ ys ++ b → item a ≡ 0 → length ys ≤ length xs
run_longest item xs ys a b h no_item e p = omega arith
run_longest item xs ys a b no_item (next_item g s k j rest) e p =
    let size : item a ≡ length g = ap item (e ∙ append_assoc g s b) ∙ j (s ++ b) in absurd (omega (arith, size, p, k))
run_longest item xs ys a b (next_item f r l i more) (next_item g s k j rest) e p =
    let whole : f ++ (r ++ a) ≡ g ++ (s ++ b) = sym (append_assoc f r a) ∙ (e ∙ append_assoc g s b) in
    let size : length f ≡ length g = sym (i (r ++ a)) ∙ (ap item whole ∙ j (s ++ b)) in
    let rests = run_longest item r s a b more rest (same_halves f g (r ++ a) (s ++ b) size whole).1 p in
    omega (arith, size, rests, length-append f r, length-append g s)

pub run-append : (item : List ℕ → ℕ) (xs ys : List ℕ) → Run item xs → Run item ys → Run item (xs ++ ys)
run-append item xs ys no_item h = h
run-append item xs ys (next_item f r l i more) h =
    subst (λ (t : List ℕ). Run item t) (sym (append_assoc f r ys)) (next_item f (r ++ ys) l i (run-append item r ys more h))

pub run_one : (item : List ℕ → ℕ) (xs : List ℕ) → 0 < length xs → ((x : List ℕ) → item (xs ++ x) ≡ length xs) → Run item xs
run_one item xs l i = subst (λ (t : List ℕ). Run item t) (append-nil xs) (next_item xs [] l i no_item)
