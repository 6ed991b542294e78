-- Whether a body writes its element, found place by place.
use Rattle.std.proofs.Common.{◌≡◌, ℕ, zero, suc, ◌+◌, ◌-◌, ◌<◌, ◌≤◌, true, false, refl, subst, arith}
use Rattle.std.specs.Prelude.{◌&&◌, not}
use Rattle.std.proofs.Math.Bool.{and-false}
use Rattle.code_model.specs.Code.{Code, reading_at}
use Rattle.machine_model.specs.Budget.{writes, is_kept}

module _ (c : Code) (r p : ℕ) where
  pub kept_none : is_kept c r p 0 ≡ true
  unfolding is_kept
  kept_none = refl

  kept_suc : (n : ℕ) → is_kept c r p (suc n) ≡ (is_kept c r p n && not (writes r (reading_at c (p + n))))
  unfolding is_kept
  kept_suc n = refl

  -- a place that writes the register, before more places
  kept_false : (m n : ℕ) → is_kept c r p n ≡ false → is_kept c r p (m + n) ≡ false
  kept_false zero n h = let e : 0 + n ≡ n = omega arith in rw e h
  kept_false (suc m) n h =
      let e : suc m + n ≡ suc (m + n) = omega arith in
      rw (e, kept_suc (m + n), kept_false m n h) refl

  pub kept_more : (place : ℕ) → p ≤ place → is_kept c r p (place - p) ≡ true → writes r (reading_at c place) ≡ false
      → is_kept c r p (place + 1 - p) ≡ true
  kept_more place le kept not_here =
      let e : place + 1 - p ≡ suc (place - p) = omega arith in
      let same : p + (place - p) ≡ place = omega arith in
      rw (e, kept_suc (place - p), same, kept, not_here) refl

  pub kept_until : (place e : ℕ) → p ≤ place → place < e → writes r (reading_at c place) ≡ true → is_kept c r p (e - p) ≡ false
  kept_until place e le lt here =
      let same : p + (place - p) ≡ place = omega arith in
      let stops : is_kept c r p (suc (place - p)) ≡ false = rw (kept_suc (place - p), same, here) (and-false (is_kept c r p (place - p))) in
      let split : (e - suc place) + suc (place - p) ≡ e - p = omega arith in
      subst (λ n. is_kept c r p n ≡ false) split (kept_false (e - suc place) (suc (place - p)) stops)
