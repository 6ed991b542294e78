-- Lists: what several crates use and the library lacks.
use Rattle.std.proofs.Common.{◌≡◌, ◌⊎◌, ℕ, zero, suc, ◌+◌, ◌<◌, ◌≤◌, Bool, true, false, not, cond, Bor, Some, None, inl, inr, refl, sym, ap}
use Rattle.std.proofs.Common.{All, List, [], arith, drop, filter, get_or, length, map, slice_get, sum_by, take, unwrap_or, ◌++◌, ◌∙◌, ◌∷◌}
use Rattle.std.proofs.Math.Logic.{⊎_elim}
use Rattle.std.proofs.lemmas.Bool.{ltb-false}
use Rattle.std.proofs.lemmas.Bool.Decides.{Decides-by_and}
use Rattle.std.proofs.lemmas.List.{map-append, take_all, take_more}
use Rattle.std.proofs.lemmas.List.Elements.{All-head, All-tail}
use Rattle.std.proofs.lemmas.List.Folds.{find-append}
use Rattle.std.proofs.lemmas.List.FromFn.{get_or-range_with_len, length-range_with_len}
use Rattle.std.proofs.lemmas.List.Sums.{prefix_len-le-length, sum_by-cons}
use Rattle.std.proofs.lemmas.Option.{none-some, same_Some}
use Rattle.std.specs.List.{AllByRecursion, before_first, find, list_all, position, position_or_len, range_with_len}
use Rattle.std.specs.Option.{option_or}
use Rattle.std.proofs.lemmas.Grind.{common_steps}
use Rattle.text_model.specs.Texts.{Text, texts_of}

-- ---- equal lists

pub same_parts : {X : Type 0} (x y : X) (xs ys : List X) → x ∷ xs ≡ y ∷ ys → (x ≡ y) × (xs ≡ ys)
same_parts x y xs ys e = (cc e, cc e)

-- equal lists are equal on both sides of a length
pub same_halves : {X : Type 0} (f g xs ys : List X) → length f ≡ length g → f ++ xs ≡ g ++ ys → (f ≡ g) × (xs ≡ ys)
same_halves [] [] xs ys l e = (refl, e)
same_halves [] (b ∷ g) xs ys l e = absurd (omega arith)
same_halves (a ∷ f) [] xs ys l e = absurd (omega arith)
same_halves (a ∷ f) (b ∷ g) xs ys l e = grind (arith, common_steps, same_halves f g xs ys (omega arith) (cc))

-- ---- facts about each element

pub all_append : {X : Type 0} (P : X → Type 0) (xs ys : List X) → AllByRecursion P xs → AllByRecursion P ys → AllByRecursion P (xs ++ ys)
all_append P [] ys h k = k
all_append P (x ∷ xs) ys h k = (h.0, all_append P xs ys h.1 k)

pub all_filter : {X : Type 0} (P : X → Type 0) (test : X → Bool) (xs : List X) → AllByRecursion P xs → AllByRecursion P (filter test xs)
all_filter P test [] all = tt
all_filter P test (x ∷ xs) all = grind (arith, common_steps, all_filter P test xs all.1)

pub All-from_list_all : {X : Type 0} (test : X → Bool) (xs : List X) → list_all test xs ≡ true → All (λ x. test x ≡ true) xs
All-from_list_all test xs e = (Decides-by_and test (λ x. test x ≡ true) (list_all test) (λ _. (λ x. x, λ x. x)) refl (λ _ _. refl) xs).0 e

pub map-same : {X Y : Type 0} (f g : X → Y) (xs : List X) → All (λ x. f x ≡ g x) xs → map f xs ≡ map g xs
map-same f g [] same = refl
map-same f g (x ∷ xs) same =
    let first = All-head (λ x. f x ≡ g x) x xs same in
    let others = map-same f g xs (All-tail (λ x. f x ≡ g x) x xs same) in
    cc

-- ---- filters

pub filter_none : {X : Type 0} (p : X → Bool) (xs : List X) → All (λ x. p x ≡ false) xs → filter p xs ≡ []
filter_none p [] none = refl
filter_none p (x ∷ xs) none = rw (All-head (λ y. p y ≡ false) x xs none) (filter_none p xs (All-tail (λ y. p y ≡ false) x xs none))

pub filter_all : {X : Type 0} (p : X → Bool) (xs : List X) → All (λ x. p x ≡ true) xs → filter p xs ≡ xs
filter_all p [] all = refl
filter_all p (x ∷ xs) all = rw (All-head (λ y. p y ≡ true) x xs all) (ap (λ ys. x ∷ ys) (filter_all p xs (All-tail (λ y. p y ≡ true) x xs all)))

-- ---- ranges

pub range_more : (first n : ℕ) → range_with_len first (n + 1) ≡ range_with_len first n ++ (first + n) ∷ []
range_more first zero = let start : first ≡ first + zero = omega arith in ap (λ at. at ∷ []) start
range_more first (suc n) =
    let size : suc n + 1 ≡ suc (n + 1) = omega arith in
    let start : first + 1 + n ≡ first + suc n = omega arith in
    ap (range_with_len first) size ∙ ap (λ rest. first ∷ rest) (range_more (first + 1) n)
    ∙ ap (λ at. first ∷ (range_with_len (first + 1) n ++ at ∷ [])) start

pub range_below : (n : ℕ) → All (λ index. index < n) (range_with_len 0 n)
range_below n = grind (arith, length-range_with_len, get_or-range_with_len)

-- ---- sums

pub sum_by-map : {X Y : Type 0} (weight : Y → ℕ) (f : X → Y) (xs : List X) → sum_by weight (map f xs) ≡ sum_by (λ x. weight (f x)) xs
sum_by-map weight f [] = refl
sum_by-map weight f (x ∷ xs) = omega (arith, sum_by-map weight f xs, sum_by-cons weight (f x) (map f xs), sum_by-cons (λ x. weight (f x)) x xs)

pub sum_by-same : {X : Type 0} (f g : X → ℕ) → ((x : X) → f x ≡ g x) → (xs : List X) → sum_by f xs ≡ sum_by g xs
sum_by-same f g same [] = refl
sum_by-same f g same (x ∷ xs) = omega (arith, same x, sum_by-same f g same xs, sum_by-cons f x xs, sum_by-cons g x xs)

-- ---- places

pub slice_get-push : {X : Type 0} (xs : List X) (y : X) (i : ℕ) (x : X) → slice_get (xs ++ y ∷ []) i ≡ Some x
    → (slice_get xs i ≡ Some x) ⊎ ((i ≡ length xs) × (y ≡ x))
slice_get-push [] y zero x is = inr (refl, (cc))
slice_get-push [] y (suc i) x is = absurd (cc)
slice_get-push (z ∷ xs) y zero x is = inl is
slice_get-push (z ∷ xs) y (suc i) x is = ⊎_elim (λ old. inl old) (λ new. inr (ap suc new.0, new.1)) (slice_get-push xs y i x is)

-- what is left from a place on is the element there, and what is left after it
pub drop_from : {X : Type 0} (xs : List X) (i : ℕ) (x : X) → slice_get xs i ≡ Some x → drop i xs ≡ x ∷ drop (suc i) xs
drop_from [] i x is = absurd (none-some x is)
drop_from (y ∷ xs) zero x is = ap (λ z. z ∷ xs) (same_Some y x is)
drop_from (y ∷ xs) (suc i) x is = drop_from xs i x is

pub past_end : {X : Type 0} (xs : List X) (i : ℕ) → slice_get xs i ≡ None → length xs ≤ i
past_end [] i none = omega arith
past_end (x ∷ xs) zero none = absurd (none-some x (sym none))
past_end (x ∷ xs) (suc i) none = omega (arith, past_end xs i none)

-- a list after a call that was lent its slice
pub written_back : {X : Type 0} (new old : List X) (len : ℕ) → length old ≡ len → length new ≡ length old → take len (new ++ drop (length new) old) ≡ new
written_back new old len long same = grind (arith, common_steps)

-- ---- the first element that passes a test

pub index_within : {X : Type 0} (test : X → Bool) (xs : List X) → position_or_len test xs ≤ length xs
index_within test xs = prefix_len-le-length (λ x. not (test x)) xs

pub index_or_length : {X : Type 0} (test : X → Bool) (xs : List X) → unwrap_or (position test xs) (length xs) ≡ position_or_len test xs
index_or_length test xs = grind (arith, ltb-false, index_within)

pub position-some : {X : Type 0} (test : X → Bool) (xs : List X) (i : ℕ) → position test xs ≡ Some i → i ≡ position_or_len test xs
position-some test xs i = grind (arith, common_steps)

pub position-none : {X : Type 0} (test : X → Bool) (xs : List X) → position test xs ≡ None → length xs ≤ position_or_len test xs
position-none test xs = grind (arith, common_steps)

pub before_first-none : {X : Type 0} (test : X → Bool) (xs : List X) → position test xs ≡ None → before_first test xs ≡ xs
before_first-none test xs none = take_all (position_or_len test xs) xs (position-none test xs none)

-- ---- the first of borrowed texts that passes a test

-- one more that fails
pub find_later : (test : Text → Bool) (xs : List (Bor Text)) (i : ℕ) (d : Bor Text) → i < length xs → find test (texts_of (take i xs)) ≡ None
    → test (get_or xs i d).now ≡ false → find test (texts_of (take (i + 1) xs)) ≡ None
find_later test xs i d within none fails =
    ap (λ l. find test (texts_of l)) (take_more xs i d within)
    ∙ ap (find test) (map-append (λ (y : Bor Text). y.now) (take i xs) (get_or xs i d ∷ []))
    ∙ find-append test (texts_of (take i xs)) ((get_or xs i d).now ∷ [])
    ∙ ap (λ o. option_or o (cond (test (get_or xs i d).now) (Some (get_or xs i d).now) None)) none
    ∙ ap (λ b. cond b (Some (get_or xs i d).now) None) fails

pub find_here : (test : Text → Bool) (xs : List (Bor Text)) (i : ℕ) (d : Bor Text) → i < length xs → find test (texts_of (take i xs)) ≡ None
    → test (get_or xs i d).now ≡ true → find test (texts_of xs) ≡ Some (get_or xs i d).now
find_here test [] i d within none passes = absurd (omega (arith, within))
find_here test (x ∷ xs) zero d within none passes = ap (λ b. cond b (Some x.now) (find test (texts_of xs))) passes
find_here test (x ∷ xs) (suc i) d within none passes = here (test x.now) (λ is. find_here test xs i d (omega (arith, within)) is passes) none
  where
    here : (b : Bool) → (find test (texts_of (take i xs)) ≡ None → find test (texts_of xs) ≡ Some (get_or xs i d).now)
        → cond b (Some x.now) (find test (texts_of (take i xs))) ≡ None → cond b (Some x.now) (find test (texts_of xs)) ≡ Some (get_or xs i d).now
    here b later is = grind (arith, common_steps)
