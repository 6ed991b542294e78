-- Numbers in two lists, and joined.
use Rattle.std.proofs.Common.{◌≡◌, ℕ, ◌+◌, ◌<◌, ◌≤◌, List, [], ◌∷◌, ◌++◌, Bool, true, false, not, cond, length, get_or, take, map, filter, refl, ap, ◌∙◌}
use Rattle.std.proofs.Common.{sym, subst}
use Rattle.std.specs.Borrow.{Bor}
use Rattle.std.proofs.lemmas.List.{append-nil, map_more, map_push, take_all}
use Rattle.std.proofs.lemmas.List.Elements.{filter-append}
use Rattle.text_model.specs.Texts.{Text, texts_of}

filter_push_at : (p : Text → Bool) (ts : List Text) (t : Text) (b : Bool) → p t ≡ b → filter p (ts ++ t ∷ []) ≡ cond b (filter p ts ++ t ∷ []) (filter p ts)
filter_push_at p ts t true e = filter-append p ts (t ∷ []) ∙ rw e refl
filter_push_at p ts t false e = filter-append p ts (t ∷ []) ∙ rw e (append-nil (filter p ts))

filter_push : (p : Text → Bool) (ts : List Text) (t : Text) → filter p (ts ++ t ∷ []) ≡ cond (p t) (filter p ts ++ t ∷ []) (filter p ts)
filter_push p ts t = filter_push_at p ts t (p t) refl

map_cond_push : (f : Text → Text) (ts : List Text) (t : Text) (b : Bool) → map f (cond b (ts ++ t ∷ []) ts) ≡ cond b (map f ts ++ f t ∷ []) (map f ts)
map_cond_push f ts t true = map_push f ts t
map_cond_push f ts t false = refl

-- the texts of one reference more, changed
texts_more : (g : Text → Text) (xs : List (Bor Text)) (i : ℕ) (d : Bor Text) → i < length xs
    → map g (texts_of (take (i + 1) xs)) ≡ map g (texts_of (take i xs)) ++ g (get_or xs i d).now ∷ []
texts_more g xs i d h = ap (map g) (map_more (λ (x : Bor Text). x.now) xs i d h) ∙ map_push g (texts_of (take i xs)) (get_or xs i d).now

-- one number more in a list of those that pass a test
pub chosen_more : (f : Text → Text) (p : Text → Bool) (g : Text → Text) (xs : List (Bor Text)) (i : ℕ) (d : Bor Text) → i < length xs
    → map f (filter p (map g (texts_of (take (i + 1) xs))))
    ≡ cond (p (g (get_or xs i d).now)) (map f (filter p (map g (texts_of (take i xs)))) ++ f (g (get_or xs i d).now) ∷ [])
    (map f (filter p (map g (texts_of (take i xs)))))
chosen_more f p g xs i d h =
    let ts : List Text = map g (texts_of (take i xs)) in
    let t : Text = g (get_or xs i d).now in
    ap (λ ts. map f (filter p ts)) (texts_more g xs i d h) ∙ ap (map f) (filter_push p ts t) ∙ map_cond_push f (filter p ts) t (p t)

filter_cond_push : (p : Text → Bool) (ts : List Text) (t : Text) (b : Bool)
    → filter p (cond b (ts ++ t ∷ []) ts)
    ≡ cond b (cond (p t) (filter p ts ++ t ∷ []) (filter p ts)) (filter p ts)
filter_cond_push p ts t true = filter_push p ts t
filter_cond_push p ts t false = refl

-- one number more in a list of those that pass two tests
pub kept_more : (p q : Text → Bool) (g : Text → Text) (xs : List (Bor Text)) (i : ℕ) (d : Bor Text) → i < length xs
    → filter p (filter q (map g (texts_of (take (i + 1) xs))))
    ≡ cond (q (g (get_or xs i d).now))
    (cond (p (g (get_or xs i d).now)) (filter p (filter q (map g (texts_of (take i xs)))) ++ g (get_or xs i d).now ∷ [])
    (filter p (filter q (map g (texts_of (take i xs))))))
    (filter p (filter q (map g (texts_of (take i xs)))))
kept_more p q g xs i d h =
    let ts : List Text = map g (texts_of (take i xs)) in
    let t : Text = g (get_or xs i d).now in
    ap (λ ts. filter p (filter q ts)) (texts_more g xs i d h) ∙ ap (filter p) (filter_push q ts t) ∙ filter_cond_push p (filter q ts) t (q t)

-- ---- in a loop

cond_not : {X : Type 0} (b : Bool) (x y : X) → cond b x y ≡ cond (not b) y x
cond_not true x y = refl
cond_not false x y = refl

-- a number that passes the first test goes to one of two lists
pub kept_pushed : (p q : Text → Bool) (g : Text → Text) (xs : List (Bor Text)) (i : ℕ) (d : Bor Text) → i < length xs
    → (old new : List Text) (number : Text) (right : Bool)
    → old ≡ filter p (filter q (map g (texts_of (take i xs)))) → number ≡ g (get_or xs i d).now → q number ≡ true → p number ≡ right
    → new ≡ cond right (old ++ number ∷ []) old → new ≡ filter p (filter q (map g (texts_of (take (i + 1) xs))))
kept_pushed p q g xs i d h old new number right was is counted chosen e =
    let y : Text = g (get_or xs i d).now in
    let kept : List Text = filter p (filter q (map g (texts_of (take i xs)))) in
    let first : q y ≡ true = subst (λ t. q t ≡ true) is counted in
    let second : p y ≡ right = subst (λ t. p t ≡ right) is chosen in
    e ∙ ap (λ o. cond right (o ++ number ∷ []) o) was ∙ ap (λ t. cond right (kept ++ t ∷ []) kept) is
    ∙ sym (kept_more p q g xs i d h ∙ ap (λ b. cond b (cond (p y) (kept ++ y ∷ []) kept) kept) first ∙ ap (λ b. cond b (kept ++ y ∷ []) kept) second)

pub kept_in_others : (p q : Text → Bool) (g : Text → Text) (xs : List (Bor Text)) (i : ℕ) (d : Bor Text) → i < length xs
    → (old new : List Text) (number : Text) (right : Bool)
    → old ≡ filter (λ t. not (p t)) (filter q (map g (texts_of (take i xs)))) → number ≡ g (get_or xs i d).now → q number ≡ true → p number ≡ right
    → new ≡ cond right old (old ++ number ∷ []) → new ≡ filter (λ t. not (p t)) (filter q (map g (texts_of (take (i + 1) xs))))
kept_in_others p q g xs i d h old new number right was is counted chosen e =
    kept_pushed (λ t. not (p t)) q g xs i d h old new number (not right) was is counted (ap not chosen) (e ∙ cond_not right old (old ++ number ∷ []))

-- and one that does not pass it to none
pub kept_skipped : (p q : Text → Bool) (g : Text → Text) (xs : List (Bor Text)) (i : ℕ) (d : Bor Text) → i < length xs
    → (old new : List Text) (number : Text)
    → old ≡ filter p (filter q (map g (texts_of (take i xs)))) → number ≡ g (get_or xs i d).now → q number ≡ false
    → new ≡ old → new ≡ filter p (filter q (map g (texts_of (take (i + 1) xs))))
kept_skipped p q g xs i d h old new number was is skipped e =
    let y : Text = g (get_or xs i d).now in
    let kept : List Text = filter p (filter q (map g (texts_of (take i xs)))) in
    let first : q y ≡ false = subst (λ t. q t ≡ false) is skipped in
    e ∙ was ∙ sym (kept_more p q g xs i d h ∙ ap (λ b. cond b (cond (p y) (kept ++ y ∷ []) kept) kept) first)

-- a number that is chosen by its digits
pub chosen_pushed : (f : Text → Text) (p : Text → Bool) (g : Text → Text) (xs : List (Bor Text)) (i : ℕ) (d : Bor Text) → i < length xs
    → (old new : List Text) (number digits : Text) (right : Bool)
    → old ≡ map f (filter p (map g (texts_of (take i xs)))) → digits ≡ g (get_or xs i d).now → number ≡ f digits → p digits ≡ right
    → new ≡ cond right (old ++ number ∷ []) old → new ≡ map f (filter p (map g (texts_of (take (i + 1) xs))))
chosen_pushed f p g xs i d h old new number digits right was is becomes chosen e =
    let y : Text = g (get_or xs i d).now in
    let kept : List Text = map f (filter p (map g (texts_of (take i xs)))) in
    let same : number ≡ f y = becomes ∙ ap f is in
    let test : p y ≡ right = subst (λ t. p t ≡ right) is chosen in
    e ∙ ap (λ o. cond right (o ++ number ∷ []) o) was ∙ ap (λ t. cond right (kept ++ t ∷ []) kept) same
    ∙ sym (chosen_more f p g xs i d h ∙ ap (λ b. cond b (kept ++ f y ∷ []) kept) test)

pub chosen_in_others : (f : Text → Text) (p : Text → Bool) (g : Text → Text) (xs : List (Bor Text)) (i : ℕ) (d : Bor Text) → i < length xs
    → (old new : List Text) (number digits : Text) (right : Bool)
    → old ≡ map f (filter (λ t. not (p t)) (map g (texts_of (take i xs)))) → digits ≡ g (get_or xs i d).now → number ≡ f digits → p digits ≡ right
    → new ≡ cond right old (old ++ number ∷ []) → new ≡ map f (filter (λ t. not (p t)) (map g (texts_of (take (i + 1) xs))))
chosen_in_others f p g xs i d h old new number digits right was is becomes chosen e =
    chosen_pushed f (λ t. not (p t)) g xs i d h old new number digits (not right) was is becomes (ap not chosen) (e ∙ cond_not right old (old ++ number ∷ []))

-- all of them
pub texts_all : (xs : List (Bor Text)) (n : ℕ) (ts : List Text) → length xs ≤ n → texts_of xs ≡ ts → texts_of (take n xs) ≡ ts
texts_all xs n ts h e = ap texts_of (take_all n xs h) ∙ e
