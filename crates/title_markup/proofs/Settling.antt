-- One markup after another, until the text ends with none.
use Rattle.std.proofs.Common.{◌≡◌, ℕ, zero, suc, ◌<◌, ◌≤◌, ◌⊎◌, inl, inr, ◌++◌, true, false, Option, Some, None, length, take}
use Rattle.std.proofs.Common.{refl, sym, ap, ◌∙◌, arith}
use Rattle.std.specs.Option.{option_map, unwrap_or, is_some}
use Rattle.std.specs.Str.{IsUtf8}
use Rattle.std.proofs.lemmas.Bool.{cases_lt}
use Rattle.std.proofs.lemmas.List.{take_all}
use Rattle.text_model.specs.Texts.{Text}
use Rattle.title_markup.specs.Titles.{shortened, settled_in, settled, IsMarkupFree}
use Rattle.title_markup.proofs.Shortening.{HasFreeFronts, one_shorter}

none_stays : (n : ℕ) (t : Text) → shortened t ≡ None → settled_in n t ≡ t
none_stays zero t h = refl
none_stays (suc n) t h = ap (λ o. unwrap_or (option_map (settled_in n) o) t) h

some_goes : (n : ℕ) (t u : Text) → shortened t ≡ Some u → settled_in (suc n) t ≡ settled_in n u
some_goes n t u h = ap (λ o. unwrap_or (option_map (settled_in n) o) t) h

shorter : (t u : Text) → shortened t ≡ Some u → length u < length t
shorter t u h = (one_shorter t u h).shorter

-- what holds of a text and, with it, of what is left without the markup at its end, holds of what is left in the end
kept : (P : Text → Type 0) → ((t u : Text) → shortened t ≡ Some u → P t → P u) → (n : ℕ) (t : Text) → P t → P (settled_in n t)
kept P each zero t p = p
kept P each (suc n) t p = by_one (shortened t) refl (kept P each n)
  where
    by_one : (o : Option Text) → shortened t ≡ o → ((u : Text) → P u → P (settled_in n u)) → P (unwrap_or (option_map (settled_in n) o) t)
    by_one None e others = p
    by_one (Some u) e others = others u (each t u e p)

all_kept : (P : Text → Type 0) → ((t u : Text) → shortened t ≡ Some u → P t → P u) → (t : Text) → P t → P (settled t)
unfolding settled
all_kept P each t p = kept P each (length t) t p

-- enough rounds are enough
enough : (n m : ℕ) (t : Text) → length t ≤ n → length t ≤ m → settled_in n t ≡ settled_in m t
enough zero m t h g = sym (none_stays m t (nothing (shortened t) refl))
  where
    nothing : (o : Option Text) → shortened t ≡ o → o ≡ None
    nothing None e = refl
    nothing (Some u) e = let less : length u < length t = shorter t u e in absurd (omega arith)
enough (suc n) m t h g = by_one (shortened t) refl m g (λ k u. enough n k u)
  where
    by_one : (o : Option Text) → shortened t ≡ o → (k : ℕ) → length t ≤ k
        → ((k : ℕ) (u : Text) → length u ≤ n → length u ≤ k → settled_in n u ≡ settled_in k u) → settled_in (suc n) t ≡ settled_in k t
    by_one None e k g others = none_stays (suc n) t e ∙ sym (none_stays k t e)
    by_one (Some u) e zero g others = let less : length u < length t = shorter t u e in absurd (omega arith)
    by_one (Some u) e (suc k) g others =
        let less : length u < length t = shorter t u e in
        some_goes n t u e ∙ others k u (omega arith) (omega arith) ∙ sym (some_goes k t u e)

ends : (n : ℕ) (t : Text) → length t ≤ n → shortened (settled_in n t) ≡ None
ends zero t h = nothing (shortened t) refl
  where
    nothing : (o : Option Text) → shortened t ≡ o → o ≡ None
    nothing None e = refl
    nothing (Some u) e = let less : length u < length t = shorter t u e in absurd (omega arith)
ends (suc n) t h = by_one (shortened t) refl (ends n)
  where
    by_one : (o : Option Text) → shortened t ≡ o → ((u : Text) → length u ≤ n → shortened (settled_in n u) ≡ None)
        → shortened (unwrap_or (option_map (settled_in n) o) t) ≡ None
    by_one None e others = e
    by_one (Some u) e others = let less : length u < length t = shorter t u e in others u (omega arith)

pub free_settled : (t : Text) → shortened t ≡ None → settled t ≡ t
unfolding settled
free_settled t h = none_stays (length t) t h

settled_ends : (t : Text) → shortened (settled t) ≡ None
unfolding settled
settled_ends t = ends (length t) t (omega arith)

pub rest_same : (t u : Text) → shortened t ≡ Some u → settled u ≡ settled t
unfolding settled
rest_same t u h =
    let less : length u < length t = shorter t u h in
    enough (length u) (length t) u (omega arith) (omega arith) ∙ sym (some_goes (length t) t u h)
    ∙ enough (suc (length t)) (length t) t (omega arith) (omega arith)

-- ---- what is left

pub settled_free : (t : Text) → HasFreeFronts t → IsMarkupFree (settled t)
settled_free t free k = by_place (cases_lt k (length (settled t)))
  where
    by_place : (k < length (settled t)) ⊎ (length (settled t) ≤ k) → shortened (take k (settled t)) ≡ None
    by_place (inl within) = all_kept HasFreeFronts (λ u v e fronts. (one_shorter u v e).fronts fronts) t free k within
    by_place (inr past) = ap shortened (take_all k (settled t) past) ∙ settled_ends t

pub settled_short : (t : Text) → length (settled t) ≤ length t
settled_short t =
    all_kept (λ u. length u ≤ length t) (λ u v e h. let less : length v < length u = shorter u v e in omega arith) t (omega arith)

pub settled_utf8 : (t rest : Text) → IsUtf8 (t ++ rest) → IsUtf8 (settled t ++ rest)
settled_utf8 t rest utf8 = all_kept (λ u. IsUtf8 (u ++ rest)) (λ u v e is. (one_shorter u v e).utf8 rest is) t utf8

-- ---- steps of the code

pub record IsStep (t u : Text) : Type 0 where
  pub shorter : length u < length t
  pub same : settled u ≡ settled t

pub step_some : (t u : Text) → is_some (shortened t) ≡ true → u ≡ unwrap_or (shortened t) t → IsStep t u
step_some t u h e = by_one (shortened t) refl h e
  where
    by_one : (o : Option Text) → shortened t ≡ o → is_some o ≡ true → u ≡ unwrap_or o t → IsStep t u
    by_one None f g e = cc
    by_one (Some v) f g e =
        let is : shortened t ≡ Some u = f ∙ ap Some (sym e) in
        record { shorter = shorter t u is; same = rest_same t u is }

pub step_none : (t u : Text) → is_some (shortened t) ≡ false → u ≡ unwrap_or (shortened t) t → u ≡ settled t
step_none t u h e = by_one (shortened t) refl h e
  where
    by_one : (o : Option Text) → shortened t ≡ o → is_some o ≡ false → u ≡ unwrap_or o t → u ≡ settled t
    by_one None f g e = e ∙ sym (free_settled t f)
    by_one (Some v) f g e = cc
