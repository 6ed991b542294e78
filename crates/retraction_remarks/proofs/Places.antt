-- Places in a text, one byte more, and what is before the first one that passes a test.
use Rattle.std.proofs.Common.{◌≡◌, ℕ, suc, ◌+◌, ◌<◌, [], ◌∷◌, ◌++◌, Bool, true, false, cond, Option, Some, None, length, get_or, take, drop}
use Rattle.std.proofs.Common.{refl, sym, ap, ◌∙◌, append-nil, append_assoc, arith}
use Rattle.std.specs.Option.{option_map}
use Rattle.std.proofs.lemmas.List.{drop_more, take_more}
use Rattle.std.proofs.lemmas.Option.{same_Some}
use Rattle.text_model.specs.Texts.{Text}
use Rattle.retraction_remarks.specs.Remarks.{before_place}

-- ---- one byte more

pub place_here : (test : Text → Bool) (t : Text) (i : ℕ) → i < length t → test (drop i t) ≡ true
    → option_map (λ front. take i t ++ front) (before_place test (drop i t)) ≡ Some (take i t)
place_here test t i h e =
    let split : drop i t ≡ get_or t i 0 ∷ drop (i + 1) t = drop_more t i 0 h in
    let here : test (get_or t i 0 ∷ drop (i + 1) t) ≡ true = ap test (sym split) ∙ e in
    let later = option_map (λ front. get_or t i 0 ∷ front) (before_place test (drop (i + 1) t)) in
    ap (λ s. option_map (λ front. take i t ++ front) (before_place test s)) split
    ∙ ap (λ b. option_map (λ front. take i t ++ front) (cond b (Some []) later)) here ∙ ap Some (append-nil (take i t))

shifted : (front : Text) (b : ℕ) (o : Option Text)
    → option_map (λ rest. front ++ rest) (option_map (λ rest. b ∷ rest) o) ≡ option_map (λ rest. (front ++ b ∷ []) ++ rest) o
shifted front b None = refl
shifted front b (Some rest) = ap Some (sym (append_assoc front (b ∷ []) rest))

pub place_later : (test : Text → Bool) (t : Text) (i : ℕ) → i < length t → test (drop i t) ≡ false
    → option_map (λ front. take (i + 1) t ++ front) (before_place test (drop (i + 1) t))
    ≡ option_map (λ front. take i t ++ front) (before_place test (drop i t))
place_later test t i h e =
    let split : drop i t ≡ get_or t i 0 ∷ drop (i + 1) t = drop_more t i 0 h in
    let here : test (get_or t i 0 ∷ drop (i + 1) t) ≡ false = ap test (sym split) ∙ e in
    let rest = before_place test (drop (i + 1) t) in
    let later = option_map (λ front. get_or t i 0 ∷ front) rest in
    sym (ap (λ s. option_map (λ front. take i t ++ front) (before_place test s)) split
    ∙ ap (λ b. option_map (λ front. take i t ++ front) (cond b (Some []) later)) here ∙ shifted (take i t) (get_or t i 0) rest
    ∙ ap (λ s. option_map (λ front. s ++ front) rest) (sym (take_more t i 0 h)))

-- ---- the place

pub record IsPlace (test : Text → Bool) (t u : Text) : Type 0 where
  pub at : ℕ
  pub within : at < length t
  pub front : u ≡ take at t
  pub passes : test (drop at t) ≡ true

pub place_of : (test : Text → Bool) (t u : Text) → before_place test t ≡ Some u → IsPlace test t u
place_of test [] u h = cc
place_of test (b ∷ t) u h = by_test (test (b ∷ t)) refl (before_place test t) (place_of test t) h
  where
    by_test : (c : Bool) → test (b ∷ t) ≡ c → (o : Option Text) → ((v : Text) → o ≡ Some v → IsPlace test t v)
        → cond c (Some []) (option_map (λ front. b ∷ front) o) ≡ Some u → IsPlace test (b ∷ t) u
    by_test true e o each g = record {
      at = 0;
      within = omega arith;
      front = sym (same_Some [] u g);
      passes = e;
    }
    by_test false e None each g = cc
    by_test false e (Some v) each g =
        let place = each v refl in
        record {
          at = suc place.at;
          within = omega (arith, place.within);
          front = sym (same_Some (b ∷ v) u g) ∙ ap (λ s. b ∷ s) place.front;
          passes = place.passes;
        }
