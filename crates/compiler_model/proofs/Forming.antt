-- The code of blocks that are correctly assembled has good form.

use Rattle.std.proofs.Common.{◌≡◌, ℕ, suc, ◌+◌, ◌-◌, ◌<◌, ◌≤◌, List, [], ◌∷◌, length, Option, Some, None, true, false, refl, sym, ap, ◌∙◌, subst, arith}
use Rattle.std.proofs.Common.{add-one}
use Rattle.std.specs.List.{list_all}
use Rattle.std.proofs.lemmas.Bool.{and_parts, and_from, lt-ltb}
use Rattle.std.proofs.lemmas.List.{length-append}
use Rattle.std.proofs.lemmas.Grind.{common_steps}
use Rattle.code_model.specs.Code.{Code, spelling, reading_at}
use Rattle.code_model.specs.declared.code.Instruction.{Instruction}
use Rattle.code_model.specs.declared.code.Instruction.TheVariants as instruction
use Rattle.code_model.specs.Operands.{Operand, operands, is_in_range}
use Rattle.machine_model.specs.declared.form.Body.{Body}
use Rattle.machine_model.specs.Operands.{Reads, is_right, is_register, is_in_table, has_table_kind, has_right_operands}
use Rattle.machine_model.specs.Form.{is_next, body_at, is_in_body, is_each, fault_of, fault_in, fault_at}
use Rattle.machine_model.proofs.Readings.{Reads-reading_at}
use Rattle.machine_model.proofs.Bodies.{body_suc, body_on, body_off, opened_none}
use Rattle.machine_model.proofs.Checks.{IsRightlyPlaced, passes_all as none_fails}
use Rattle.compiler_model.specs.declared.lines.Action.{Action}
use Rattle.compiler_model.specs.declared.lines.Test.{Test}
use Rattle.compiler_model.specs.declared.lines.Test.TheVariants.{IsUndefined, IsEmpty, HasNoMember, HasNoNumber, Differs, IsLess}
use Rattle.compiler_model.specs.declared.lines.Target.TheVariants.{Ahead}
use Rattle.compiler_model.specs.declared.lines.Line.TheVariants.{Acts, Jumps, Begins, Turns}
use Rattle.compiler_model.specs.Blocks.{Block, Nothing, Does, Then, Unless, Either, ForEach, LeaveIf, Leave, lines}
use Rattle.compiler_model.specs.Compiled.{line_instruction, test_instruction}
use Rattle.compiler_model.proofs.Places.{IsPlaced, ArePlaced, placed_both}
use Rattle.compiler_model.proofs.Formed.{IsFormed}

module _ (c : Code) where
  -- ---- a place at which every check passes has no error

  -- the checks of operands, one at a time
  abbrev PassFour : List Operand → Type 0
  PassFour os = (list_all is_in_range os ≡ true) × (list_all (is_register c) os ≡ true) × (list_all (is_in_table c) os ≡ true)
      × (list_all (has_table_kind c) os ≡ true)

  four_from : (os : List Operand) → list_all (is_right c) os ≡ true → PassFour os
  four_from [] h = (refl, refl, refl, refl)
  four_from (o ∷ os) h =
      let all = and_parts (is_right c o) (list_all (is_right c) os) h in
      let rest = four_from os all.1 in
      let a = and_parts (is_in_range o) _ all.0 in
      let b = and_parts (is_register c o) _ a.1 in
      let d = and_parts (is_in_table c o) (has_table_kind c o) b.1 in (
        and_from (is_in_range o) _ a.0 rest.0,
        and_from (is_register c o) _ b.0 rest.1,
        and_from (is_in_table c o) _ d.0 rest.2,
        and_from (has_table_kind c o) _ d.1 rest.3,
      )

  right_four : (i : Instruction) → has_right_operands c i ≡ true → PassFour (operands i)
  unfolding has_right_operands
  right_four i h = four_from (operands i) h

  -- what the checks require of an instruction that is read at a place
  pub record Passes (p : ℕ) (i : Instruction) : Type 0 where
    pub reads : Reads c p i
    pub placed : IsRightlyPlaced c p i

  pub passes_all : (p : ℕ) (i : Instruction) → Passes p i → fault_at c p ≡ None
  unfolding fault_at
  passes_all p i k =
      let four = right_four i k.reads.right in
      ap (fault_in c p) k.reads.spelled ∙ ap (fault_of c p (spelling i)) k.reads.known
      ∙ none_fails c p (spelling i) i (grind (arith, common_steps))

  -- ---- bodies

  -- a place is before the end of the body, if there is one
  abbrev pub Room : Option Body → ℕ → Type 0
  Room None q = Unit {0}
  Room (Some b) q = q < b.end

  pub room_less : (o : Option Body) (p q : ℕ) → p ≤ q → Room o q → Room o p
  room_less None p q le r = tt
  room_less (Some b) p q le r = omega (arith, le, r)

  -- an instruction that neither begins nor ends a body is followed by a place in the same body
  pub body_next : (p : ℕ) (i : Instruction) → Reads c p i → is_each i ≡ false → (o : Option Body) → body_at c p ≡ o → Room o (p + 1) → body_at c (p + 1) ≡ o
  body_next p i r e None h room = rw add-one (rw (body_suc c p, h, Reads-reading_at c p i r) (opened_none c p i e))
  body_next p i r e (Some b) h room = rw add-one (body_on c p b h (omega (arith, room)))

  -- the body that EACH begins, from p + 1 to before q + 1
  abbrev pub loop_body : ℕ → ℕ → ℕ → Body
  loop_body p q a = record { start = p + 1; end = q + 1; element = a }

  pub body_begins : (p q a b : ℕ) → Reads c p (instruction.Each a b (q + 1)) → Reads c q instruction.Next → p < q → q + 1 < length c.instrs
      → body_at c p ≡ None → body_at c (p + 1) ≡ Some (loop_body p q a)
  body_begins p q a b r n lt within h =
      let last : q + 1 - 1 ≡ q = omega arith in
      let next : is_next (reading_at c (q + 1 - 1)) ≡ true = ap (λ x. is_next (reading_at c x)) last ∙ ap is_next (Reads-reading_at c q instruction.Next n) in
      let after : suc p ≡ p + 1 = omega arith in
      subst (λ n. body_at c n ≡ Some (record { start = n; end = q + 1; element = a })) after
      (rw (
        body_suc c p,
        h,
        Reads-reading_at c p (instruction.Each a b (q + 1)) r,
        lt-ltb p (q + 1) (omega (arith, lt)),
        lt-ltb (q + 1) (length c.instrs) within,
        next,
      ) refl)

  pub body_leaves : (p q a : ℕ) → body_at c q ≡ Some (loop_body p q a) → body_at c (q + 1) ≡ None
  body_leaves p q a h = rw add-one (body_off c q (loop_body p q a) h (omega arith))

  pub test_each : (t : Test) (d : ℕ) → is_each (test_instruction t d) ≡ false
  test_each (IsUndefined a) d = refl
  test_each (IsEmpty a) d = refl
  test_each (HasNoMember a) d = refl
  test_each (HasNoNumber a b) d = refl
  test_each (Differs a b) d = refl
  test_each (IsLess a b) d = refl

  action_each : (a : Action) (away p : ℕ) → is_each (line_instruction c.names c.literals away p (Acts a)) ≡ false
  action_each a away p = grind (arith, common_steps)

  -- EACH, with the place where its loop ends
  pub each_read : (away p q a b places : ℕ) → p + places ≡ q + 1 → IsPlaced c away p (Begins a b places) → Reads c p (instruction.Each a b (q + 1))
  each_read away p q a b places e h = subst (λ d. Reads c p (instruction.Each a b d)) e h.reads

  pub none_outside : (o : Option Body) → is_in_body o ≡ false → o ≡ None
  none_outside None h = refl
  none_outside (Some b) h = absurd (cc)

  -- after a block the body is the same as before it
  pub body_past : (b : Block) (version away p q : ℕ) (o : Option Body) → IsFormed version (is_in_body o) b → ArePlaced c away p (lines b)
      → p + length (lines b) ≡ q → q < length c.instrs → Room o q → body_at c p ≡ o → body_at c q ≡ o
  body_past Nothing version away p q o f h eq lt room at = let e : q ≡ p = omega (arith, eq) in ap (body_at c) e ∙ at
  body_past (Does a) version away p q o f h eq lt room at =
      let e : q ≡ p + 1 = omega (arith, eq) in
      ap (body_at c) e ∙ body_next p _ h.0.reads (action_each a away p) o at (room_less o (p + 1) q (omega (arith, eq)) room)
  body_past (Then x y) version away p q o f h eq lt room at =
      let mid = p + length (lines x) in
      let both = placed_both c away p (lines x) (lines y) h in
      let eq2 : mid + length (lines y) ≡ q = omega (arith, eq, length-append (lines x) (lines y)) in
      body_past y version away mid q o f.1 both.1 eq2 lt room
      (body_past x version away p mid o f.0 both.0 refl (omega (arith, eq2, lt)) (room_less o mid q (omega (arith, eq2)) room) at)
  body_past (Unless t x) version away p q o f h eq lt room at =
      let eq2 : p + 1 + length (lines x) ≡ q = omega (arith, eq) in
      body_past x version away (p + 1) q o f.1 h.1 eq2 lt room
      (body_next p _ h.0.reads (test_each t _) o at (room_less o (p + 1) q (omega (arith, eq2)) room))
  body_past (Either t x y) version away p q o f h eq lt room at =
      let mid = p + 1 + length (lines x) in
      let both = placed_both c away (p + 1) (lines x) (Jumps (Ahead (length (lines y) + 1)) ∷ lines y) h.1 in
      let eq2 : mid + 1 + length (lines y) ≡ q = omega (arith, eq, length-append (lines x) (Jumps (Ahead (length (lines y) + 1)) ∷ lines y)) in
      let first = body_next p _ h.0.reads (test_each t _) o at (room_less o (p + 1) q (omega (arith, eq2)) room) in
      let second = body_past x version away (p + 1) mid o f.1 both.0 refl (omega (arith, eq2, lt)) (room_less o mid q (omega (arith, eq2)) room) first in
      body_past y version away (mid + 1) q o f.2 both.1.1 eq2 lt room
      (body_next mid _ both.1.0.reads refl o second (room_less o (mid + 1) q (omega (arith, eq2)) room))
  body_past (ForEach a b x) version away p q o f h eq lt room at =
      let last = p + 1 + length (lines x) in
      let both = placed_both c away (p + 1) (lines x) (Turns ∷ []) h.1 in
      let eq2 : last + 1 ≡ q = omega (arith, eq, length-append (lines x) (Turns ∷ [])) in
      let none = none_outside o f.0 in
      let inside = body_begins p last a b (each_read away p last a b _ (omega arith) h.0) both.1.0.reads (omega arith) (omega (arith, eq2, lt)) (at ∙ none) in
      let end = body_past x version away (p + 1) last (Some (loop_body p last a)) f.3 both.0 refl (omega (arith, eq2, lt)) (omega arith) inside in
      ap (body_at c) (sym eq2) ∙ body_leaves p last a end ∙ sym none
  body_past (LeaveIf t) version away p q o f h eq lt room at =
      let e : q ≡ p + 1 = omega (arith, eq) in
      ap (body_at c) e ∙ body_next p _ h.0.reads (test_each t _) o at (room_less o (p + 1) q (omega (arith, eq)) room)
  body_past Leave version away p q o f h eq lt room at =
      let e : q ≡ p + 1 = omega (arith, eq) in
      ap (body_at c) e ∙ body_next p _ h.0.reads refl o at (room_less o (p + 1) q (omega (arith, eq)) room)
  -- ---- no errors
  -- no place from p to before q has an error
