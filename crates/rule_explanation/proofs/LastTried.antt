-- The last item that is tried.
use Rattle.std.proofs.Common.{◌≡◌, List, [], ◌∷◌, ◌++◌, Bool, true, false, cond, ◌||◌, refl, ap, sym, ◌∙◌}
use Rattle.std.specs.List.{list_any}
use Rattle.std.proofs.lemmas.Bool.{both_ways}
use Rattle.rule_explanation.specs.Rows.{up_to_first}

-- the items end with one that passes
pub record EndsWithOne {A : Type 0} (test : A → Bool) (xs : List A) : Type 0 where
  pub before : List A
  pub last : A
  pub ends : xs ≡ before ++ last ∷ []
  pub passes : test last ≡ true

pub last_passes : {A : Type 0} (test : A → Bool) (xs : List A) → list_any test xs ≡ true → EndsWithOne test (up_to_first test xs)
last_passes test [] e = absurd (both_ways false refl e)
last_passes test (x ∷ xs) e = by_test (test x) refl (last_passes test xs) e
  where
    by_test : (b : Bool) → test x ≡ b → (list_any test xs ≡ true → EndsWithOne test (up_to_first test xs)) → (b || list_any test xs) ≡ true
        → EndsWithOne test (cond b (x ∷ []) (x ∷ up_to_first test xs))
    by_test true pass rest any = record { before = []; last = x; ends = refl; passes = pass }
    by_test false fail rest any =
        let later = rest any in
        record { before = x ∷ later.before; last = later.last; ends = ap (λ ys. x ∷ ys) later.ends; passes = later.passes }

same_any : {A : Type 0} (test : A → Bool) (xs : List A) → list_any test (up_to_first test xs) ≡ list_any test xs
same_any test [] = refl
same_any test (x ∷ xs) = by_test (test x) refl (same_any test xs)
  where
    by_test : (b : Bool) → test x ≡ b → list_any test (up_to_first test xs) ≡ list_any test xs
        → list_any test (cond b (x ∷ []) (x ∷ up_to_first test xs)) ≡ (b || list_any test xs)
    by_test true e rest = rw e refl
    by_test false e rest = rw e rest

any_at : {A : Type 0} (test : A → Bool) (before : List A) (x : A) (after : List A) → test x ≡ true → list_any test (before ++ x ∷ after) ≡ true
any_at test [] x after e = rw e refl
any_at test (y ∷ before) x after e = by_test (test y) (any_at test before x after e)
  where
    by_test : (b : Bool) → list_any test (before ++ x ∷ after) ≡ true → (b || list_any test (before ++ x ∷ after)) ≡ true
    by_test true rest = refl
    by_test false rest = rest

pub one_passes : {A : Type 0} (test : A → Bool) (xs before : List A) (x : A) → up_to_first test xs ≡ before ++ x ∷ [] → test x ≡ true → list_any test xs ≡ true
one_passes test xs before x ends pass = sym (same_any test xs) ∙ ap (list_any test) ends ∙ any_at test before x [] pass

after_step : {A : Type 0} (test : A → Bool) (b : Bool) (z x : A) (later front after : List A) → test z ≡ b → test x ≡ true
    → ((rest : List A) → later ≡ rest ++ x ∷ after → after ≡ []) → cond b (z ∷ []) (z ∷ later) ≡ front ++ x ∷ after → after ≡ []
after_step test true z x later [] after here pass rest same = cc
after_step test true z x later (y ∷ []) after here pass rest same = absurd (cc)
after_step test true z x later (y ∷ w ∷ front) after here pass rest same = absurd (cc)
after_step test false z x later [] after fail pass rest same =
    let is : z ≡ x = cc in
    absurd (both_ways (test x) (ap test (sym is) ∙ fail) pass)
after_step test false z x later (y ∷ front) after fail pass rest same =
    let next : later ≡ front ++ x ∷ after = cc in
    rest front next

-- no item comes after one that passes
pub none_after : {A : Type 0} (test : A → Bool) (xs before after : List A) (x : A) → up_to_first test xs ≡ before ++ x ∷ after → test x ≡ true → after ≡ []
none_after test [] [] after x e pass = absurd (cc)
none_after test [] (y ∷ before) after x e pass = absurd (cc)
none_after test (z ∷ xs) before after x e pass =
    after_step test (test z) z x (up_to_first test xs) before after refl pass (λ rest same. none_after test xs rest after x same pass) e

pub all_tried : {A : Type 0} (test : A → Bool) (xs : List A) → list_any test xs ≡ false → up_to_first test xs ≡ xs
all_tried test [] e = refl
all_tried test (x ∷ xs) e = by_test (test x) (all_tried test xs) e
  where
    by_test : (b : Bool) → (list_any test xs ≡ false → up_to_first test xs ≡ xs) → (b || list_any test xs) ≡ false
        → cond b (x ∷ []) (x ∷ up_to_first test xs) ≡ x ∷ xs
    by_test true rest none = absurd (both_ways true none refl)
    by_test false rest none = ap (λ ys. x ∷ ys) (rest none)
