-- Sums over places.
use Rattle.std.proofs.Common.{◌≡◌, ℕ, zero, suc, ◌+◌, ◌-◌, ◌*◌, ◌≤◌, Some, None, refl, sym, subst, arith}
use Rattle.code_model.specs.Code.{Code}
use Rattle.machine_model.specs.declared.form.Body.{Body}
use Rattle.machine_model.specs.Form.{body_at}
use Rattle.machine_model.specs.Budget.{total, where_outside, where_inside}

pub total_suc : (f : ℕ → ℕ) (n : ℕ) → total f (suc n) ≡ total f n + f n
unfolding total
total_suc f n = refl

total_more : (f : ℕ → ℕ) (m k : ℕ) → total f m ≤ total f (k + m)
total_more f m zero = let e : 0 + m ≡ m = omega arith in subst (λ n. total f m ≤ total f n) (sym e) (omega arith)
total_more f m (suc k) =
    let e : suc k + m ≡ suc (k + m) = omega arith in
    let h = total_more f m k in
    subst (λ n. total f m ≤ total f n) (sym e) (rw (total_suc f (k + m)) (omega arith))

pub total_le : (f : ℕ → ℕ) (m n : ℕ) → m ≤ n → total f m ≤ total f n
total_le f m n le = let e : (n - m) + m ≡ n = omega arith in subst (λ x. total f m ≤ total f x) e (total_more f m (n - m))

-- the sum of f + h * e
pub total_linear : (f g h : ℕ → ℕ) (e n : ℕ) → ((p : ℕ) → f p ≡ g p + h p * e) → total f n ≡ total g n + total h n * e
unfolding total
total_linear f g h e zero k = omega arith
total_linear f g h e (suc n) k = omega (arith, total_linear f g h e n k, k n)

pub total_same : (f g : ℕ → ℕ) (n : ℕ) → ((p : ℕ) → f p ≡ g p) → total f n ≡ total g n
unfolding total
total_same f g zero k = refl
total_same f g (suc n) k = omega (arith, total_same f g n k, k n)

pub total_zero : (f : ℕ → ℕ) (n : ℕ) → ((p : ℕ) → f p ≡ 0) → total f n ≡ 0
unfolding total
total_zero f zero k = refl
total_zero f (suc n) k = omega (arith, total_zero f n k, k n)

-- the sums over the places before p, in no body and in bodies
abbrev pub outer : Code → (ℕ → ℕ) → ℕ → ℕ
outer c f p = total (where_outside c f) p

abbrev pub inner : Code → (ℕ → ℕ) → ℕ → ℕ
inner c f p = total (where_inside c f) p

module _ (c : Code) (f : ℕ → ℕ) where
  -- one more place, outside bodies and in one
  pub total_outside : (p : ℕ) → body_at c p ≡ None → outer c f (suc p) ≡ outer c f p + f p
  total_outside p h = rw (total_suc (where_outside c f) p, h) refl

  pub total_inside : (p : ℕ) (b : Body) → body_at c p ≡ Some b → inner c f (suc p) ≡ inner c f p + f p
  total_inside p b h = rw (total_suc (where_inside c f) p, h) refl
