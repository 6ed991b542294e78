-- The sums of a code are small.
use Rattle.std.proofs.Common.{◌≡◌, ℕ, zero, suc, ◌+◌, ◌*◌, ◌<◌, ◌≤◌, length, Option, Some, None, Bool, true, false, sym, subst, arith}
use Rattle.std.specs.Prelude.{if◌then◌else◌}
use Rattle.std.proofs.Math.Nat.{mul-suc}
use Rattle.std.proofs.lemmas.Grind.{common_steps}
use Rattle.code_model.specs.Code.{Code, reading_at}
use Rattle.code_model.specs.declared.code.Instruction.{Instruction}
use Rattle.code_model.specs.declared.code.Instruction.TheVariants as instruction
use Rattle.machine_model.specs.declared.form.Body.{Body}
use Rattle.machine_model.specs.Form.{body_at, is_in_body}
use Rattle.machine_model.specs.Budget.{Sums, fixed_bytes, fixed_at, separator_bytes, separator_at, written_bytes, written_at, is_of_element, of_element}
use Rattle.machine_model.specs.Budget.{of_others, total, where_outside, where_inside}
use Rattle.code_file.specs.Grammar.{IsCode}
use Rattle.budget.specs.Small.{IsSmall}
use Rattle.budget.specs.Private.SumsBelow.{sums_below}
use Rattle.budget.proofs.Longest.{longest_short, text_short}

totals_le : (f g : ℕ → ℕ) (k : ℕ) → ((p : ℕ) → f p + g p ≤ k) → (n : ℕ) → total f n + total g n ≤ k * n
unfolding total
totals_le f g k h zero = omega arith
totals_le f g k h (suc n) = rw (mul-suc k n) (omega (arith, totals_le f g k h n, h n))

-- a place is counted in one of two sums
apart_at : (o : Option Body) (a b k : ℕ) → a ≤ k → b ≤ k → (if is_in_body o then 0 else a) + (if is_in_body o then b else 0) ≤ k
apart_at None a b k ha hb = omega arith
apart_at (Some body) a b k ha hb = omega arith

apart : (c : Code) (f g : ℕ → ℕ) (k : ℕ) → ((p : ℕ) → f p ≤ k) → ((p : ℕ) → g p ≤ k) → (n : ℕ)
    → total (where_outside c f) n + total (where_inside c g) n ≤ k * n
apart c f g k hf hg = totals_le (where_outside c f) (where_inside c g) k (λ p. apart_at (body_at c p) (f p) (g p) k (hf p) (hg p))

if_le : (t : Bool) (a b k : ℕ) → a ≤ k → b ≤ k → (if t then a else b) ≤ k
if_le true a b k ha hb = ha
if_le false a b k ha hb = hb

written_le : (i : Option Instruction) → written_bytes i ≤ 3
written_le (Some (instruction.Put a m)) = omega arith
written_le (Some (instruction.Cut a n m)) = omega arith
written_le _ = omega arith

module _ (c : Code) (is : IsCode c) where
  fixed_le : (i : Option Instruction) → fixed_bytes c i ≤ 196605
  fixed_le (Some (instruction.Emit b)) = omega (arith, text_short c b is)
  fixed_le (Some (instruction.Put a m)) = omega (arith, longest_short c is)
  fixed_le (Some (instruction.Cut a n m)) = omega (arith, longest_short c is)
  fixed_le _ = omega arith

  -- an instruction has a fixed text or a separator
  printed_le : (t : Bool) (i : Option Instruction) → (if t then 0 else fixed_bytes c i) + separator_bytes c i ≤ 196605
  printed_le true (Some (instruction.Sep b)) = omega (arith, text_short c b is)
  printed_le false (Some (instruction.Sep b)) = omega (arith, text_short c b is)
  printed_le true _ = omega arith
  printed_le false (Some (instruction.Emit b)) = omega (arith, text_short c b is)
  printed_le false (Some (instruction.Put a m)) = omega (arith, longest_short c is)
  printed_le false (Some (instruction.Cut a n m)) = omega (arith, longest_short c is)
  printed_le false _ = omega arith

  written_at_le : (p : ℕ) → written_at c p ≤ 3
  written_at_le p = written_le (reading_at c p)

  of_element_le : (p : ℕ) → of_element c (written_at c) p ≤ 3
  of_element_le p = if_le (is_of_element c p) _ _ 3 (written_at_le p) (omega arith)

  of_others_le : (p : ℕ) → of_others c (written_at c) p ≤ 3
  of_others_le p = if_le (is_of_element c p) _ _ 3 (omega arith) (written_at_le p)

  pub small_below : (n : ℕ) → n ≤ length c.instrs → IsSmall (sums_below c n)
  small_below n h =
      let few : length c.instrs ≤ 4096 = is.header.instrs in
      let steps = apart c (λ p. 1) (λ p. 1) 1 (λ p. omega arith) (λ p. omega arith) n in
      let printed = apart c (fixed_at c) (λ p. of_others c (fixed_at c) p + separator_at c p) 196605 (λ p. fixed_le (reading_at c p))
      (λ p. printed_le (is_of_element c p) (reading_at c p)) n in
      let o2 = apart c (written_at c) (of_element c (written_at c)) 3 written_at_le of_element_le n in
      let o3 = apart c (written_at c) (of_others c (written_at c)) 3 written_at_le of_others_le n in
      grind (arith, common_steps)

  pub small_after : (place : ℕ) (sums : Sums) → place < length c.instrs → sums ≡ sums_below c (place + 1) → IsSmall sums
  small_after place sums lt is = subst IsSmall (sym is) (small_below (place + 1) (omega arith))
