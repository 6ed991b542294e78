-- The lists of a watch, and further ones after them.
use Rattle.std.proofs.Common.{◌≡◌, ℕ, zero, suc, ◌+◌, ◌-◌, ◌≤◌, List, [], ◌++◌, Option, Some, None, refl, sym, ap, ◌∙◌, arith, append-nil, append_assoc}
use Rattle.std.specs.Prelude.{Result, Ok, Err, OnErr, OnOk}
use Rattle.interleaved_runs.specs.StepLists.{HasSeenSome, with_lists}

-- what holds in any case holds after success, and after an error
pub on_ok : {T E : Type 0} (r : Result T E) (P : Type 0) → P → OnOk r P
on_ok (Ok x) P p = p
on_ok (Err e) P p = tt

pub on_err : {T E : Type 0} (r : Result T E) (P : Type 0) → P → OnErr r P
on_err (Ok x) P p = tt
on_err (Err e) P p = p

pub with_none : (told : Option (List (List ℕ))) → told ≡ with_lists told []
with_none None = refl
with_none (Some lists) = ap (λ all. Some all) (sym (append-nil lists))

pub with_more : (told : Option (List (List ℕ))) (some more : List (List ℕ)) → with_lists (with_lists told some) more ≡ with_lists told (some ++ more)
with_more None some more = refl
with_more (Some lists) some more = ap (λ all. Some all) (append_assoc lists some more)

pub nothing_seen : (lists : List (List ℕ)) (told : Option (List (List ℕ))) → HasSeenSome lists told told
nothing_seen lists told = ([], lists, refl, with_none told)

-- ---- lists that grow at their ends

module _ (lists more : ℕ → List (List ℕ)) (grow : (n : ℕ) → lists (suc n) ≡ lists n ++ more n) where
  further : (m n : ℕ) → (rest : List (List ℕ)) × (lists (m + n) ≡ lists m ++ rest)
  further m zero = let same : m + 0 ≡ m = omega arith in ([], ap lists same ∙ sym (append-nil (lists m)))
  further m (suc n) =
      let before = further m n in
      let next : m + suc n ≡ suc (m + n) = omega arith in
      (before.0 ++ more (m + n), ap lists next ∙ grow (m + n) ∙ ap (λ ls. ls ++ more (m + n)) before.1 ∙ append_assoc (lists m) before.0 (more (m + n)))

  pub rest_of : (m n : ℕ) → m ≤ n → (rest : List (List ℕ)) × (lists n ≡ lists m ++ rest)
  rest_of m n le =
      let after = further m (n - m) in
      let all : n ≡ m + (n - m) = omega (arith, le) in
      (after.0, ap lists all ∙ after.1)

  pub first_of : (m n : ℕ) (told now : Option (List (List ℕ))) → m ≤ n → now ≡ with_lists told (lists m) → HasSeenSome (lists n) told now
  first_of m n told now le seen = let after = rest_of m n le in (lists m, after.0, after.1, seen)
