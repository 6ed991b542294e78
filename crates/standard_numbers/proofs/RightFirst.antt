-- The order of numbers.
use Rattle.std.proofs.Common.{◌≡◌, List, [], ◌∷◌, ◌++◌, Bool, true, false, not, cond, filter, refl, ap, ◌∙◌}
use Rattle.std.specs.List.{All}
use Rattle.std.proofs.lemmas.Bool.{not-true, not_from_true}
use Rattle.std.proofs.lemmas.List.{append-nil}
use Rattle.std.proofs.lemmas.List.Elements.{All-filter, All-append, filter-append}
use Rattle.text_model.specs.Texts.{Text}
use Rattle.standard_numbers.specs.Spellings.{right_first}

pub all_right_first : (P : Text → Type 0) (p : Text → Bool) (ts : List Text) → All P ts → All P (right_first p ts)
all_right_first P p ts all =
    All-append P (filter p ts) (filter (λ t. not (p t)) ts) (All-filter p P ts all) (All-filter (λ t. not (p t)) P ts all)

filter_again_at : (p : Text → Bool) (t : Text) (ts : List Text) (b : Bool) → p t ≡ b → filter p (filter p ts) ≡ filter p ts
    → filter p (cond b (t ∷ filter p ts) (filter p ts)) ≡ cond b (t ∷ filter p ts) (filter p ts)
filter_again_at p t ts true e h = rw e (ap (λ r. t ∷ r) h)
filter_again_at p t ts false e h = h

-- a filter again changes nothing
filter_again : (p : Text → Bool) (ts : List Text) → filter p (filter p ts) ≡ filter p ts
filter_again p [] = refl
filter_again p (t ∷ ts) = filter_again_at p t ts (p t) refl (filter_again p ts)

filter_other_at : (p q : Text → Bool) (t : Text) (ts : List Text) (b : Bool) → q t ≡ b → (q t ≡ true → p t ≡ false) → filter p (filter q ts) ≡ []
    → filter p (cond b (t ∷ filter q ts) (filter q ts)) ≡ []
filter_other_at p q t ts true e excludes h = rw (excludes e) h
filter_other_at p q t ts false e excludes h = h

-- no element passes both of two tests that exclude each other
filter_other : (p q : Text → Bool) → ((t : Text) → q t ≡ true → p t ≡ false) → (ts : List Text) → filter p (filter q ts) ≡ []
filter_other p q excludes [] = refl
filter_other p q excludes (t ∷ ts) = filter_other_at p q t ts (q t) refl (excludes t) (filter_other p q excludes ts)

-- what is in this order already stays
pub right_first_again : (p : Text → Bool) (ts : List Text) → right_first p (right_first p ts) ≡ right_first p ts
right_first_again p ts =
    let q : Text → Bool = λ t. not (p t) in
    let right : filter p (filter p ts ++ filter q ts) ≡ filter p ts =
    filter-append p (filter p ts) (filter q ts)
    ∙ ap (λ r. r ++ filter p (filter q ts)) (filter_again p ts)
    ∙ ap (λ r. filter p ts ++ r) (filter_other p q (λ t h. not-true (p t) h) ts)
    ∙ append-nil (filter p ts) in
    let others : filter q (filter p ts ++ filter q ts) ≡ filter q ts =
    filter-append q (filter p ts) (filter q ts)
    ∙ ap (λ r. r ++ filter q (filter q ts)) (filter_other q p (λ t h. not_from_true (p t) h) ts)
    ∙ filter_again q ts in
    ap (λ r. r ++ filter q (filter p ts ++ filter q ts)) right ∙ ap (λ r. filter p ts ++ r) others

one_first_at : (p : Text → Bool) (t : Text) (b : Bool) → p t ≡ b → right_first p (t ∷ []) ≡ t ∷ []
one_first_at p t true e = rw e refl
one_first_at p t false e = rw e refl

-- a number alone
pub one_first : (p : Text → Bool) (t : Text) → right_first p (t ∷ []) ≡ t ∷ []
one_first p t = one_first_at p t (p t) refl
