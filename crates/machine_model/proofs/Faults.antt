-- A code has good form exactly if no first error is found.
use Rattle.std.proofs.Common.{◌≡◌, ℕ, zero, suc, ◌<◌, ◌≤◌, length, Option, Some, None, refl, ap, subst, arith, ⊎_elim}
use Rattle.std.specs.Prelude.{◌↔◌}
use Rattle.std.proofs.lemmas.Bool.{cases_lt}
use Rattle.std.proofs.lemmas.Option.{slice_get_past}
use Rattle.std.proofs.lemmas.Grind.{common_steps}
use Rattle.code_model.specs.Code.{Code}
use Rattle.machine_model.specs.First.{located, or_else, first_below}
use Rattle.machine_model.specs.Form.{fault_in, fault_at, HasGoodForm, first_form_fault}

-- ---- the first of some places

pub both_none : {X : Type 0} (a b : Option X) → or_else a b ≡ None → (a ≡ None) × (b ≡ None)
both_none None b h = (refl, h)
both_none (Some x) b h = absurd (cc)

located_none : {X : Type 0} (p : ℕ) (o : Option X) → located p o ≡ None → o ≡ None
located_none p h h2 = grind (arith, common_steps)

pub none_below : {X : Type 0} (f : ℕ → Option X) (n : ℕ) → first_below f n ≡ None → (p : ℕ) → p < n → f p ≡ None
unfolding first_below
none_below f zero h p lt = absurd (omega arith)
none_below f (suc n) h p lt =
    let both = both_none (first_below f n) (located n (f n)) h in
    ⊎_elim (λ less. none_below f n both.0 p less) (λ le. let e : n ≡ p = omega arith in subst (λ q. f q ≡ None) e (located_none n (f n) both.1)) (cases_lt p n)

pub first_none : {X : Type 0} (f : ℕ → Option X) (n : ℕ) → ((p : ℕ) → p < n → f p ≡ None) → first_below f n ≡ None
unfolding first_below
first_none f zero h = refl
first_none f (suc n) h = rw (first_none f n (λ p lt. h p (omega arith)), h n (omega arith)) refl

-- ---- form

pub past_good : (c : Code) (p : ℕ) → length c.instrs ≤ p → fault_at c p ≡ None
unfolding fault_at
past_good c p le = ap (fault_in c p) (slice_get_past c.instrs p le)

pub form_decided : (c : Code) → HasGoodForm c ↔ (first_form_fault c ≡ None)
form_decided c = (
  λ g. first_none (fault_at c) (length c.instrs) (λ p lt. g.at p),
  λ h. record { at = λ p. ⊎_elim (none_below (fault_at c) (length c.instrs) h p) (past_good c p) (cases_lt p (length c.instrs)) },
)
