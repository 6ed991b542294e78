-- The items of a text: where the first one ends, and the text of the first n of them.
use Rattle.std.proofs.Common.{◌≡◌, ℕ, zero, suc, ◌+◌, ◌≤◌, List, [], ◌∷◌, ◌++◌, length, take, drop, Bool, cond, sym, true, false, refl, ap, ◌∙◌, subst, arith}
use Rattle.std.proofs.Common.{length-append}
use Rattle.std.specs.Prelude.{if◌then◌else◌}
use Rattle.std.specs.List.{prefix_len}
use Rattle.std.proofs.lemmas.Bool.{cond-true, cond-false}
use Rattle.std.proofs.lemmas.List.{take_all}
use Rattle.std.proofs.lemmas.Grind.{common_steps}
use Rattle.text_model.specs.Texts.{Text}
use Rattle.text_model.specs.Cut.{is_continuation, with_byte, code_points, are_triplet, with_triplets, items, joined, cut}
use Rattle.text_model.specs.declared.writing.Writing.{Writing}
use Rattle.text_model.specs.declared.writing.Writing.TheVariants.{U, UR}

-- ---- the items of a text joined are the text

joined-with_byte : (b : ℕ) (points : List Text) → joined (with_byte b points) ≡ b ∷ joined points
joined-with_byte b points = grind (arith, common_steps)

pub joined-code_points : (t : Text) → joined (code_points t) ≡ t
unfolding code_points
joined-code_points [] = refl
joined-code_points (b ∷ t) = joined-with_byte b (code_points t) ∙ ap (λ x. b ∷ x) (joined-code_points t)

joined-with_triplets : (points : List Text) → joined (with_triplets points) ≡ joined points
unfolding with_triplets
joined-with_triplets [] = refl
joined-with_triplets (p ∷ []) = refl
joined-with_triplets (p ∷ q ∷ []) = refl
joined-with_triplets (p ∷ q ∷ r ∷ points) = grind (arith, joined-with_triplets points, joined-with_triplets (q ∷ r ∷ points))

pub joined-items : (w : Writing) (t : Text) → joined (items w t) ≡ t
joined-items U t = joined-code_points t
joined-items UR t = joined-with_triplets (code_points t) ∙ joined-code_points t

-- ---- a cut

length-joined-take : (texts : List Text) (n : ℕ) → length (joined (take n texts)) ≤ length (joined texts)
length-joined-take texts zero = omega arith
length-joined-take [] (suc n) = omega arith
length-joined-take (t ∷ texts) (suc n) =
    omega (arith, length-joined-take texts n, length-append t (joined (take n texts)), length-append t (joined texts))

-- no cut is longer than its text
pub length-cut : (w : Writing) (t : Text) (n : ℕ) → length (cut w t n) ≤ length t
length-cut w t n = subst (λ x. length (cut w t n) ≤ length x) (joined-items w t) (length-joined-take (items w t) n)

-- and a cut with at least as many items as the text has is the whole text
pub cut-long : (w : Writing) (t : Text) (n : ℕ) → length (items w t) ≤ n → cut w t n ≡ t
cut-long w t n h = ap joined (take_all n (items w t) h) ∙ joined-items w t

pub cut-nothing : (w : Writing) (t : Text) (n : ℕ) → length t ≡ 0 → cut w t n ≡ []
unfolding code_points with_triplets
cut-nothing U [] zero e = refl
cut-nothing U [] (suc n) e = refl
cut-nothing UR [] zero e = refl
cut-nothing UR [] (suc n) e = refl
cut-nothing w (b ∷ t) n e = absurd (omega arith)

-- an item at the beginning is the first of the cut
pub cut-item : (w : Writing) (t front rest : Text) (n : ℕ) → items w t ≡ front ∷ items w rest → cut w t (n + 1) ≡ front ++ cut w rest n
cut-item w t front rest n e = grind (arith, common_steps)

-- ---- where the first item ends

-- the code point and the two after it are the characters of a triplet
abbrev pub begins_with_triplet_points : Text → List Text → Bool
begins_with_triplet_points p [] = false
begins_with_triplet_points p (q ∷ []) = false
begins_with_triplet_points p (q ∷ r ∷ points) = are_triplet p q r

-- a byte and the bytes of its code point after it come first
pub code_points-next : (b : ℕ) (t : Text) → code_points (b ∷ t) ≡ (b ∷ take (prefix_len is_continuation t) t) ∷ code_points
    (drop (prefix_len is_continuation t) t)
unfolding code_points
code_points-next b [] = refl
code_points-next b (c ∷ t) = ap (with_byte b) (code_points-next c t) ∙ by_test (code_points-next c t) (is_continuation c)
  where
    k : ℕ
    k = prefix_len is_continuation t

    by_test : code_points (c ∷ t) ≡ (c ∷ take k t) ∷ code_points (drop k t) → (x : Bool)
        → (if x then ((b ∷ c ∷ take k t) ∷ code_points (drop k t)) else ((b ∷ []) ∷ (c ∷ take k t) ∷ code_points (drop k t)))
        ≡ (b ∷ take (cond x (1 + k) 0) (c ∷ t)) ∷ code_points (drop (cond x (1 + k) 0) (c ∷ t))
    by_test next true = let e : 1 + k ≡ suc k = omega arith in rw e refl
    by_test next false = ap (λ x. (b ∷ []) ∷ x) (sym next)

-- three code points that are not a triplet: the first is an item
pub with_triplets-first : (p : Text) (points : List Text) → begins_with_triplet_points p points ≡ false → with_triplets (p ∷ points) ≡ p ∷ with_triplets points
unfolding with_triplets
with_triplets-first p [] e = refl
with_triplets-first p (q ∷ []) e = refl
with_triplets-first p (q ∷ r ∷ points) e = cond-false (are_triplet p q r) _ _ e

-- three code points that are a triplet are an item
pub with_triplets-triplet : (p q r : Text) (points : List Text) → are_triplet p q r ≡ true → with_triplets (p ∷ q ∷ r ∷ points)
    ≡ (p ++ q ++ r) ∷ with_triplets points
unfolding with_triplets
with_triplets-triplet p q r points e = cond-true (are_triplet p q r) _ _ e
