-- The marks at the beginning of a part, one at a time.
use Rattle.std.proofs.Common.{◌≡◌, ℕ, zero, suc, ◌<◌, ◌≤◌, [], ◌∷◌, Bool, true, false, cond, length, drop, refl, ◌∙◌, ap, sym, arith}
use Rattle.std.proofs.Common.{length-drop}
use Rattle.std.specs.Prelude.{◌==◌}
use Rattle.std.proofs.lemmas.Bool.Decides.{nat_tests}
use Rattle.text_model.specs.Texts.{Text}
use Rattle.query_repair.specs.Pieces.{mark_length, after_marks, unmarked}

-- two texts are the same if their second choices are
second_same : (b : Bool) (t x y : Text) → (b ≡ false → x ≡ y) → cond b t x ≡ cond b t y
second_same true t x y same = refl
second_same false t x y same = same refl

pub some_from_test : (k : ℕ) → (k == 0) ≡ false → 0 < k
some_from_test k e = grind (arith, nat_tests)

test_of_some : (k : ℕ) → 0 < k → (k == 0) ≡ false
test_of_some k some = grind (arith, nat_tests)

test_of_none : (k : ℕ) → k ≤ 0 → (k == 0) ≡ true
test_of_none k small = grind (arith, nat_tests)

none : (n : ℕ) → after_marks n [] ≡ []
none zero = refl
none (suc n) = refl

-- a part has at most as many marks as bytes
pub enough : (n m : ℕ) (t : Text) → length t ≤ n → length t ≤ m → after_marks n t ≡ after_marks m t
enough n m [] small more = none n ∙ sym (none m)
enough zero m (b ∷ t) small more = absurd (omega arith)
enough (suc n) zero (b ∷ t) small more = absurd (omega arith)
enough (suc n) (suc m) (b ∷ t) small more =
    second_same (mark_length (b ∷ t) == 0) (b ∷ t) _ _
    (λ e. let k = mark_length (b ∷ t) in
    let some : 0 < k = some_from_test k e in
    let left = length-drop k (b ∷ t) in
    enough n m (drop k (b ∷ t)) (omega (arith, left)) (omega (arith, left)))

mark_goes : (t : Text) → 0 < mark_length t → after_marks (length t) t ≡ after_marks (length (drop (mark_length t) t)) (drop (mark_length t) t)
mark_goes [] some = refl
mark_goes (b ∷ t) some =
    let k = mark_length (b ∷ t) in
    let left = length-drop k (b ∷ t) in
    ap (λ test. cond test (b ∷ t) (after_marks (length t) (drop k (b ∷ t)))) (test_of_some k some)
    ∙ enough (length t) (length (drop k (b ∷ t))) (drop k (b ∷ t)) (omega (arith, left)) (omega arith)

pub next_mark : (t rest part : Text) (k : ℕ) → k ≡ mark_length t → 0 < mark_length t → rest ≡ drop k t
    → after_marks (length t) t ≡ after_marks (length part) part → after_marks (length rest) rest ≡ after_marks (length part) part
next_mark t rest part k is some left so_far =
    ap (λ r. after_marks (length r) r) (left ∙ ap (λ n. drop n t) is) ∙ sym (mark_goes t some) ∙ so_far

pub no_mark : (t : Text) → mark_length t ≤ 0 → t ≡ after_marks (length t) t
no_mark [] small = refl
no_mark (b ∷ t) small =
    sym (ap (λ test. cond test (b ∷ t) (after_marks (length t) (drop (mark_length (b ∷ t)) (b ∷ t)))) (test_of_none (mark_length (b ∷ t)) small))

pub none_marked : (t : Text) → mark_length t ≤ 0 → unmarked t ≡ t
unfolding unmarked
none_marked t small = sym (no_mark t small)

shorter_choice : (b : Bool) (t x : Text) → length x ≤ length t → length (cond b t x) ≤ length t
shorter_choice true t x h = omega arith
shorter_choice false t x h = h

-- nothing is added
pub shorter : (n : ℕ) (t : Text) → length (after_marks n t) ≤ length t
shorter zero t = omega arith
shorter (suc n) t =
    let k = mark_length t in
    let left = length-drop k t in
    let less : length (after_marks n (drop k t)) ≤ length t = omega (arith, left, shorter n (drop k t)) in
    shorter_choice (k == 0) t (after_marks n (drop k t)) less
