-- One remark after another, until there is none.
use Rattle.std.proofs.Common.{◌≡◌, ℕ, zero, suc, ◌<◌, ◌≤◌, Option, Some, None, length}
use Rattle.std.proofs.Common.{refl, sym, ap, ◌∙◌, arith}
use Rattle.std.specs.Option.{option_map, unwrap_or}
use Rattle.text_model.specs.Texts.{Text}
use Rattle.retraction_remarks.specs.Titles.{without_one, after_some, without_remarks, IsRemarkFree}
use Rattle.retraction_remarks.proofs.OneLess.{one_less}

none_stays : (n : ℕ) (t : Text) → without_one t ≡ None → after_some n t ≡ t
none_stays zero t h = refl
none_stays (suc n) t h = ap (λ o. unwrap_or (option_map (after_some n) o) t) h

some_goes : (n : ℕ) (t u : Text) → without_one t ≡ Some u → after_some (suc n) t ≡ after_some n u
some_goes n t u h = ap (λ o. unwrap_or (option_map (after_some n) o) t) h

shorter : (t u : Text) → without_one t ≡ Some u → length u < length t
shorter t u h = (one_less t u h).shorter

-- what holds of a title and, with it, of what is left without one remark, holds of what is left in the end
kept : (P : Text → Type 0) → ((t u : Text) → without_one t ≡ Some u → P t → P u) → (n : ℕ) (t : Text) → P t → P (after_some n t)
kept P each zero t p = p
kept P each (suc n) t p = by_one (without_one t) refl (kept P each n)
  where
    by_one : (o : Option Text) → without_one t ≡ o → ((u : Text) → P u → P (after_some n u)) → P (unwrap_or (option_map (after_some n) o) t)
    by_one None e others = p
    by_one (Some u) e others = others u (each t u e p)

pub all_kept : (P : Text → Type 0) → ((t u : Text) → without_one t ≡ Some u → P t → P u) → (t : Text) → P t → P (without_remarks t)
unfolding without_remarks
all_kept P each t p = kept P each (length t) t p

-- enough rounds are enough
enough : (n m : ℕ) (t : Text) → length t ≤ n → length t ≤ m → after_some n t ≡ after_some m t
enough zero m t h g = sym (none_stays m t (nothing (without_one t) refl))
  where
    nothing : (o : Option Text) → without_one t ≡ o → o ≡ None
    nothing None e = refl
    nothing (Some u) e = let less : length u < length t = shorter t u e in absurd (omega arith)
enough (suc n) m t h g = by_one (without_one t) refl m g (λ k u. enough n k u)
  where
    by_one : (o : Option Text) → without_one t ≡ o → (k : ℕ) → length t ≤ k
        → ((k : ℕ) (u : Text) → length u ≤ n → length u ≤ k → after_some n u ≡ after_some k u) → after_some (suc n) t ≡ after_some k t
    by_one None e k g others = none_stays (suc n) t e ∙ sym (none_stays k t e)
    by_one (Some u) e zero g others = let less : length u < length t = shorter t u e in absurd (omega arith)
    by_one (Some u) e (suc k) g others =
        let less : length u < length t = shorter t u e in
        some_goes n t u e ∙ others k u (omega arith) (omega arith) ∙ sym (some_goes k t u e)

ends : (n : ℕ) (t : Text) → length t ≤ n → without_one (after_some n t) ≡ None
ends zero t h = nothing (without_one t) refl
  where
    nothing : (o : Option Text) → without_one t ≡ o → o ≡ None
    nothing None e = refl
    nothing (Some u) e = let less : length u < length t = shorter t u e in absurd (omega arith)
ends (suc n) t h = by_one (without_one t) refl (ends n)
  where
    by_one : (o : Option Text) → without_one t ≡ o → ((u : Text) → length u ≤ n → without_one (after_some n u) ≡ None)
        → without_one (unwrap_or (option_map (after_some n) o) t) ≡ None
    by_one None e others = e
    by_one (Some u) e others = let less : length u < length t = shorter t u e in others u (omega arith)

pub free_stays : (t : Text) → IsRemarkFree t → without_remarks t ≡ t
unfolding without_remarks
free_stays t h = none_stays (length t) t h

pub rest_free : (t : Text) → IsRemarkFree (without_remarks t)
unfolding without_remarks
rest_free t = ends (length t) t (omega arith)

pub rest_same : (t u : Text) → without_one t ≡ Some u → without_remarks u ≡ without_remarks t
unfolding without_remarks
rest_same t u h =
    let less : length u < length t = shorter t u h in
    enough (length u) (length t) u (omega arith) (omega arith) ∙ sym (some_goes (length t) t u h)
    ∙ enough (suc (length t)) (length t) t (omega arith) (omega arith)

-- ---- steps of the code

pub step_shorter : (t u : Text) → Some u ≡ without_one t → length u < length t
step_shorter t u h = shorter t u (sym h)

pub step_same : (t u : Text) → Some u ≡ without_one t → without_remarks u ≡ without_remarks t
step_same t u h = rest_same t u (sym h)

pub step_none : (t : Text) → None ≡ without_one t → without_remarks t ≡ t
step_none t h = free_stays t (sym h)

pub ruleset title_steps = (step_shorter, step_same, step_none)
