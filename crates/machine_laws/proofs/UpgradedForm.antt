-- An upgrade keeps good form, kinds and the budget.

use Rattle.std.proofs.Common.{◌≡◌, ℕ, zero, suc, ◌+◌, ◌-◌, ◌<◌, ◌≤◌, List, [], ◌∷◌, length, Option, Some, None, Bool, true, refl, sym, ap, ◌∙◌, subst}
use Rattle.std.proofs.Common.{⊎_elim, arith}
use Rattle.std.specs.Prelude.{◌↔◌, slice_get, option_and_then, ◌&&◌, ◌||◌, not}
use Rattle.std.specs.List.{list_all, AllByRecursion}
use Rattle.std.proofs.Math.Path.{fun_ext}
use Rattle.std.proofs.lemmas.Bool.{and_parts, and_from, cases_lt}
use Rattle.std.proofs.lemmas.Option.{slice_get_past}
use Rattle.std.proofs.lemmas.Grind.{common_steps}
use Rattle.code_model.specs.Code.{Code, reading, reading_at, upgraded}
use Rattle.code_model.specs.Operands.{Operand, operands}
use Rattle.code_model.specs.declared.code.Instr.{Instr}
use Rattle.code_model.specs.declared.code.Instruction.{Instruction}
use Rattle.machine_model.specs.declared.form.Body.{Body}
use Rattle.machine_model.specs.Operands.{is_register, is_in_table, has_table_kind}
use Rattle.machine_model.specs.Form.{is_next, opened, body_at, is_in_body, is_same_body, ends_body, target, goes_to, is_each, is_sep, checks}
use Rattle.machine_model.specs.Form.{first_failing, fault_of, fault_in, fault_at, HasGoodForm}
use Rattle.machine_model.specs.Kinds.{Kinds, needs, edges, for_instruction, needs_at, edges_at}
use Rattle.machine_model.specs.Typable.{Holds, IsMet, IsTypable}
use Rattle.machine_model.specs.Budget.{written_bytes, fixed_at, separator_at, written_at, is_kept, is_of_element}
use Rattle.machine_model.specs.Budget.{of_element, of_others, where_outside, where_inside, outside, inside, sums_of}
use Rattle.machine_model.proofs.Checks.{passes_all, passes_from}
use Rattle.machine_model.proofs.GoodPlaces.{good_at}
use Rattle.machine_laws.proofs.Sums.{total_same}
use Rattle.machine_laws.proofs.Upgrades.{read_at, reading_more, register_more}

module _ (c : Code) where
  is_next_same : (p : ℕ) → is_next (reading_at (upgraded c) p) ≡ is_next (reading_at c p)
  is_next_same p = ⊎_elim (λ same. ap is_next (sym same)) (λ other. rw (other.0, other.1.2) refl) (read_at c p)

  opened_as : (p : ℕ) (o : Option Instruction) → opened (upgraded c) p o ≡ opened c p o
  opened_as p o = grind (arith, is_next_same)

  opened_same : (p : ℕ) → opened (upgraded c) p (reading_at (upgraded c) p) ≡ opened c p (reading_at c p)
  opened_same p = ⊎_elim (λ same. opened_as p (reading_at (upgraded c) p) ∙ ap (opened c p) (sym same)) (λ other. rw (other.0, other.1.2) refl) (read_at c p)

  body_same : (p : ℕ) → body_at (upgraded c) p ≡ body_at c p
  unfolding body_at
  body_same zero = refl
  body_same (suc p) = grind (arith, opened_same)

  bodies_same : body_at (upgraded c) ≡ body_at c
  bodies_same = fun_ext body_same

  -- ---- form

  all_registers : (os : List Operand) → list_all (is_register c) os ≡ true → list_all (is_register (upgraded c)) os ≡ true
  all_registers [] k = refl
  all_registers (o ∷ os) k =
      let both = and_parts (is_register c o) (list_all (is_register c) os) k in
      and_from (is_register (upgraded c) o) (list_all (is_register (upgraded c)) os) (register_more c o both.0) (all_registers os both.1)

  passes_more : (p : ℕ) (f : Instr) (i : Instruction) → first_failing (checks c p f i) ≡ None → first_failing (checks (upgraded c) p f i) ≡ None
  passes_more p f i h =
      let a = passes_from c p f i h in
      let at = a.placed in
      let bodies = sym bodies_same in
      let nexts = sym (fun_ext is_next_same) in
      passes_all (upgraded c) p f i (record {
        spelled = a.spelled;
        registers = all_registers (operands i) a.registers;
        in_tables = tables_same (operands i) a.in_tables;
        table_kinds = kinds_same (operands i) a.table_kinds;
        placed = record {
          forward = at.forward;
          within = at.within;
          crosses = subst (λ (b : ℕ → Option Body). (is_each i || goes_to (λ d. is_same_body (b p) (b d)) (target i)) ≡ true) bodies at.crosses;
          nested = subst (λ (b : ℕ → Option Body). not (is_each i && is_in_body (b p)) ≡ true) bodies at.nested;
          looped = subst (λ (n : ℕ → Bool). (not (is_each i) || goes_to (λ d. n (d - 1)) (target i)) ≡ true) nexts at.looped;
          next_last = subst (λ (b : ℕ → Option Body). (not (is_next (Some i)) || ends_body p (b p)) ≡ true) bodies at.next_last;
          sep_in = subst (λ (b : ℕ → Option Body). (not (is_sep i) || is_in_body (b p)) ≡ true) bodies at.sep_in;
          continues = at.continues;
        };
      })
    where
      tables_same : (os : List Operand) → list_all (is_in_table c) os ≡ true → list_all (is_in_table (upgraded c)) os ≡ true
      tables_same os k = grind (arith, common_steps)

      kinds_same : (os : List Operand) → list_all (has_table_kind c) os ≡ true → list_all (has_table_kind (upgraded c)) os ≡ true
      kinds_same os k = grind (arith, common_steps)

  fault_more : (p : ℕ) → fault_at c p ≡ None → fault_at (upgraded c) p ≡ None
  unfolding fault_at
  fault_more p h = by_fields (slice_get c.instrs p) h
    where
      by_reading : (f : Instr) (o : Option Instruction) → reading c.version f ≡ o → fault_of c p f o ≡ None → fault_of (upgraded c) p f (reading 2 f) ≡ None
      by_reading f None r k = absurd (cc)
      by_reading f (Some i) r k = rw (reading_more c.version f i r) (passes_more p f i k)

      by_fields : (o : Option Instr) → fault_in c p o ≡ None → fault_in (upgraded c) p o ≡ None
      by_fields o k = grind (arith, by_reading)

  pub form_kept : HasGoodForm c → HasGoodForm (upgraded c)
  form_kept form = record { at = λ p. fault_more p (form.at p) }

  -- ---- for code of good form: the same instruction is read at each place

  module _ (form : HasGoodForm c) where
    reading_same : (p : ℕ) → reading_at (upgraded c) p ≡ reading_at c p
    reading_same p = ⊎_elim within past (cases_lt p (length c.instrs))
      where
        within : p < length c.instrs → reading_at (upgraded c) p ≡ reading_at c p
        within lt = let g = good_at c form p lt in ⊎_elim sym (λ other. absurd (cc (other.0, g.1.read))) (read_at c p)

        past : length c.instrs ≤ p → reading_at (upgraded c) p ≡ reading_at c p
        past le = let none = slice_get_past c.instrs p le in ap (option_and_then (reading 2)) none ∙ sym (ap (option_and_then (reading c.version)) none)

    needs_same : (p : ℕ) → needs_at (upgraded c) p ≡ needs_at c p
    needs_same p = ap (λ o. for_instruction o needs) (reading_same p)

    edges_same : (p : ℕ) (ks : Kinds) → edges_at (upgraded c) p ks ≡ edges_at c p ks
    edges_same p ks = ap (λ o. for_instruction o (edges p ks (body_at (upgraded c) p))) (reading_same p)
        ∙ ap (λ b. for_instruction (reading_at c p) (edges p ks b)) (body_same p)

    pub typable_kept : IsTypable c ↔ IsTypable (upgraded c)
    typable_kept = (
      λ y. (
        y.0,
        record { first = y.1.first; along = λ p ks known. subst (AllByRecursion (Holds y.0)) (sym (edges_same p ks)) (y.1.along p ks known) },
        record { at = λ p ks known. subst (AllByRecursion (IsMet ks)) (sym (needs_same p)) (y.2.at p ks known) },
      ),
      λ y. (
        y.0,
        record { first = y.1.first; along = λ p ks known. subst (AllByRecursion (Holds y.0)) (edges_same p ks) (y.1.along p ks known) },
        record { at = λ p ks known. subst (AllByRecursion (IsMet ks)) (needs_same p) (y.2.at p ks known) },
      ),
    )

    -- ---- and the budget

    fixed_same : (p : ℕ) → fixed_at (upgraded c) p ≡ fixed_at c p
    fixed_same p = grind (arith, reading_same)

    separator_same : (p : ℕ) → separator_at (upgraded c) p ≡ separator_at c p
    separator_same p = grind (arith, reading_same)

    written_same : (p : ℕ) → written_at (upgraded c) p ≡ written_at c p
    written_same p = ap written_bytes (reading_same p)

    kept_same : (r p n : ℕ) → is_kept (upgraded c) r p n ≡ is_kept c r p n
    unfolding is_kept
    kept_same r p zero = refl
    kept_same r p (suc n) = rw (kept_same r p n, reading_same (p + n)) refl

    element_same : (p : ℕ) → is_of_element (upgraded c) p ≡ is_of_element c p
    element_same p = grind (arith, body_same, reading_same, kept_same)

    outside_same : (f g : ℕ → ℕ) → ((p : ℕ) → f p ≡ g p) → outside (upgraded c) f ≡ outside c g
    outside_same f g same = total_same (where_outside (upgraded c) f) (where_outside c g) (length c.instrs) (λ p. rw (body_same p, same p) refl)

    inside_same : (f g : ℕ → ℕ) → ((p : ℕ) → f p ≡ g p) → inside (upgraded c) f ≡ inside c g
    inside_same f g same = total_same (where_inside (upgraded c) f) (where_inside c g) (length c.instrs) (λ p. rw (body_same p, same p) refl)

    pub budget_kept : sums_of (upgraded c) ≡ sums_of c
    budget_kept =
        let s0 = outside_same (λ p. 1) (λ p. 1) (λ p. refl) in
        let s1 = inside_same (λ p. 1) (λ p. 1) (λ p. refl) in
        let o0 = outside_same (fixed_at (upgraded c)) (fixed_at c) fixed_same in
        let o1 = inside_same (λ p. of_others (upgraded c) (fixed_at (upgraded c)) p + separator_at (upgraded c) p)
        (λ p. of_others c (fixed_at c) p + separator_at c p) (λ p. rw (element_same p, fixed_same p, separator_same p) refl) in
        let o2 = outside_same (written_at (upgraded c)) (written_at c) written_same in
        let o2' = inside_same (of_element (upgraded c) (written_at (upgraded c))) (of_element c (written_at c))
        (λ p. rw (element_same p, written_same p) refl) in
        let o3 = inside_same (of_others (upgraded c) (written_at (upgraded c))) (of_others c (written_at c)) (λ p. rw (element_same p, written_same p) refl) in
        λ t. record { s0 = s0 t; s1 = s1 t; o0 = o0 t; o1 = o1 t; o2 = o2 t + o2' t; o3 = o3 t }
