-- The sums over one more place.
use Rattle.std.proofs.Common.{◌≡◌, ℕ, ◌+◌, Option, Some, None, true, false, refl, ◌∙◌, arith, add-one}
use Rattle.code_model.specs.Code.{Code, reading_at}
use Rattle.code_model.specs.declared.code.Instruction.{Instruction}
use Rattle.code_model.specs.declared.code.Instruction.TheVariants as instruction
use Rattle.machine_model.specs.declared.form.Body.{Body}
use Rattle.machine_model.specs.Form.{body_at}
use Rattle.machine_model.specs.Budget.{separator_bytes, prints, is_of_element, total, where_outside, where_inside}
use Rattle.budget.specs.declared.share.Share.{Share}
use Rattle.budget.specs.Private.SumsBelow.{sums_below}
use Rattle.budget.specs.Private.Shares.{IsShareOf, plus_outside, plus_inside, plus_element}

-- no place has been counted
pub no_sums : (c : Code) → record { s0 = 0; s1 = 0; o0 = 0; o1 = 0; o2 = 0; o3 = 0 } ≡ sums_below c 0
unfolding total
no_sums c = refl

total_more : (f : ℕ → ℕ) (p : ℕ) → total f (p + 1) ≡ total f p + f p
unfolding total
total_more f p = rw add-one refl

module _ (c : Code) (f : ℕ → ℕ) (p : ℕ) where
  outside_more : body_at c p ≡ None → total (where_outside c f) (p + 1) ≡ total (where_outside c f) p + f p
  outside_more e = total_more (where_outside c f) p ∙ rw e refl

  outside_same : (b : Body) → body_at c p ≡ Some b → total (where_outside c f) (p + 1) ≡ total (where_outside c f) p
  outside_same b e = total_more (where_outside c f) p ∙ rw e (omega arith)

  inside_more : (b : Body) → body_at c p ≡ Some b → total (where_inside c f) (p + 1) ≡ total (where_inside c f) p + f p
  inside_more b e = total_more (where_inside c f) p ∙ rw e refl

  inside_same : body_at c p ≡ None → total (where_inside c f) (p + 1) ≡ total (where_inside c f) p
  inside_same e = total_more (where_inside c f) p ∙ rw e (omega arith)

no_separator : (c : Code) (r : ℕ) (i : Option Instruction) → prints r i ≡ true → separator_bytes c i ≡ 0
no_separator c r (Some (instruction.Sep b)) h = absurd (cc)
no_separator c r _ h = refl

module _ (c : Code) (p : ℕ) (s : Share) (is : IsShareOf c (reading_at c p) s) where
  pub outside_step : body_at c p ≡ None → sums_below c (p + 1) ≡ plus_outside (sums_below c p) s
  outside_step e = grind (arith, outside_more, inside_same)

  module _ (b : Body) (e : body_at c p ≡ Some b) where
    pub inside_step : is_of_element c p ≡ false → sums_below c (p + 1) ≡ plus_inside (sums_below c p) s
    inside_step other = grind (arith, outside_same, inside_more)

    pub element_step : is_of_element c p ≡ true → prints b.element (reading_at c p) ≡ true → sums_below c (p + 1) ≡ plus_element (sums_below c p) s
    element_step mine is_print = grind (arith, outside_same, inside_more, no_separator)
