-- The places of a block have no error of form.

use Rattle.std.proofs.Common.{◌≡◌, ℕ, ◌+◌, ◌<◌, ◌≤◌, [], ◌∷◌, length, Option, Some, None, true, false, refl, ap, ◌∙◌, subst, arith, ⊎_elim}
use Rattle.std.specs.Prelude.{◌||◌, not}
use Rattle.std.proofs.lemmas.Bool.{cases_lt}
use Rattle.std.proofs.lemmas.List.{length-append}
use Rattle.std.proofs.lemmas.Grind.{common_steps}
use Rattle.code_model.specs.Code.{Code}
use Rattle.code_model.specs.declared.code.Instruction.{Instruction}
use Rattle.code_model.specs.declared.code.Instruction.TheVariants as instruction
use Rattle.machine_model.specs.declared.form.Body.{Body}
use Rattle.machine_model.specs.Operands.{Reads}
use Rattle.machine_model.specs.Form.{is_next, body_at, is_in_body, target, is_each, is_sep, ends_run, fault_at}
use Rattle.compiler_model.specs.declared.lines.Action.{Action}
use Rattle.compiler_model.specs.declared.lines.Action.TheVariants.{LoadText, LoadList, LoadConst, CountMembers, Emits, Separates, Puts, Cuts}
use Rattle.compiler_model.specs.declared.lines.Test.{Test}
use Rattle.compiler_model.specs.declared.lines.Test.TheVariants.{IsUndefined, IsEmpty, HasNoMember, HasNoNumber, Differs, IsLess}
use Rattle.compiler_model.specs.declared.lines.Target.{Target}
use Rattle.compiler_model.specs.declared.lines.Target.TheVariants.{Ahead}
use Rattle.compiler_model.specs.declared.lines.Line.TheVariants.{Acts, Tests, Jumps, Turns}
use Rattle.compiler_model.specs.Blocks.{Block, Nothing, Does, Then, Unless, Either, ForEach, LeaveIf, Leave, lines}
use Rattle.compiler_model.specs.Compiled.{place_of, test_instruction}
use Rattle.compiler_model.proofs.Places.{IsPlaced, ArePlaced, placed_both}
use Rattle.compiler_model.proofs.Formed.{IsFormedAction, IsFormed}
use Rattle.compiler_model.proofs.Forming.{Room, body_begins, body_past, body_next, each_read, loop_body, none_outside, passes_all, room_less, test_each}

module _ (c : Code) where
  abbrev pub HasNoFault : ℕ → ℕ → Type 0
  HasNoFault p q = (x : ℕ) → p ≤ x → x < q → fault_at c x ≡ None

  pub clean_one : (p q : ℕ) → p + 1 ≡ q → fault_at c p ≡ None → HasNoFault p q
  clean_one p q e h x low high = let same : p ≡ x = omega (arith, low, high, e) in subst (λ n. fault_at c n ≡ None) same h

  pub clean_both : (p m q : ℕ) → HasNoFault p m → HasNoFault m q → HasNoFault p q
  clean_both p m q a b x low high = ⊎_elim (λ lt. a x low lt) (λ le. b x le high) (cases_lt x m)

  -- an instruction that leads only to the next place
  plain_good : (p : ℕ) (i : Instruction) → Reads c p i → is_each i ≡ false → is_next (Some i) ≡ false → target i ≡ None
      → (not (is_sep i) || is_in_body (body_at c p)) ≡ true → p + 1 < length c.instrs → fault_at c p ≡ None
  plain_good p i r e n t s lt = passes_all c p i (grind (arith, common_steps))

  -- an instruction that may jump within its body, or outside of loops
  jump_good : (p d : ℕ) (i : Instruction) (o : Option Body) → Reads c p i → is_each i ≡ false → is_next (Some i) ≡ false → is_sep i ≡ false → target i ≡ Some d
      → p < d → d < length c.instrs → body_at c p ≡ o → body_at c d ≡ o → fault_at c p ≡ None
  jump_good p d i o r e n s t low high at there = passes_all c p i (grind (arith, common_steps))

  each_good : (p q a b : ℕ) → Reads c p (instruction.Each a b (q + 1)) → Reads c q instruction.Next → p < q → q + 1 < length c.instrs → body_at c p ≡ None
      → fault_at c p ≡ None
  each_good p q a b r n lt within at = passes_all c p (instruction.Each a b (q + 1)) (grind (arith, common_steps))

  next_good : (p q a : ℕ) → Reads c q instruction.Next → body_at c q ≡ Some (loop_body c p q a) → q + 1 < length c.instrs → fault_at c q ≡ None
  next_good p q a r at lt = passes_all c q instruction.Next (grind (arith, common_steps))

  -- HALT and FAIL may be anywhere
  pub last_good : (p : ℕ) (i : Instruction) → Reads c p i → ends_run i ≡ true → fault_at c p ≡ None
  last_good p i r e = by_end i r e
    where
      by_end : (i : Instruction) → Reads c p i → ends_run i ≡ true → fault_at c p ≡ None
      by_end instruction.Halt r e = passes_all c p instruction.Halt (grind (arith, common_steps))
      by_end instruction.Fail r e = passes_all c p instruction.Fail (grind (arith, common_steps))
      by_end _ r e = absurd (cc)

  action_good : (a : Action) (version away p : ℕ) (o : Option Body) → IsFormedAction version (is_in_body o) a → body_at c p ≡ o → p + 1 < length c.instrs
      → IsPlaced c away p (Acts a) → fault_at c p ≡ None
  action_good (LoadText a name) version away p o f at lt h = plain_good p _ h.reads refl refl refl refl lt
  action_good (LoadList a name) version away p o f at lt h = plain_good p _ h.reads refl refl refl refl lt
  action_good (LoadConst a t) version away p o f at lt h = plain_good p _ h.reads refl refl refl refl lt
  action_good (CountMembers a b) version away p o f at lt h = plain_good p _ h.reads refl refl refl refl lt
  action_good (Emits t) version away p o f at lt h = plain_good p _ h.reads refl refl refl refl lt
  action_good (Separates t) version away p o f at lt h = plain_good p _ h.reads refl refl refl (ap is_in_body at ∙ f.0) lt
  action_good (Puts a w) version away p o f at lt h = plain_good p _ h.reads refl refl refl refl lt
  action_good (Cuts a n w) version away p o f at lt h = plain_good p _ h.reads refl refl refl refl lt

  test_good : (t : Test) (p d : ℕ) (o : Option Body) → Reads c p (test_instruction t d) → p < d → d < length c.instrs → body_at c p ≡ o → body_at c d ≡ o
      → fault_at c p ≡ None
  test_good (IsUndefined a) p d o r low high at there = jump_good p d _ o r refl refl refl refl low high at there
  test_good (IsEmpty a) p d o r low high at there = jump_good p d _ o r refl refl refl refl low high at there
  test_good (HasNoMember a) p d o r low high at there = jump_good p d _ o r refl refl refl refl low high at there
  test_good (HasNoNumber a b) p d o r low high at there = jump_good p d _ o r refl refl refl refl low high at there
  test_good (Differs a b) p d o r low high at there = jump_good p d _ o r refl refl refl refl low high at there
  test_good (IsLess a b) p d o r low high at there = jump_good p d _ o r refl refl refl refl low high at there

  -- a test, with the place of its target
  pub test_read : (t : Test) (g : Target) (away p d : ℕ) → place_of away p g ≡ d → IsPlaced c away p (Tests t g) → Reads c p (test_instruction t d)
  test_read t g away p d e h = subst (λ x. Reads c p (test_instruction t x)) e h.reads

  -- outside of loops a block may be left, to a place after it outside of loops
  abbrev pub MayLeave : Option Body → ℕ → ℕ → Type 0
  MayLeave o q away = o ≡ None → (q ≤ away) × (away < length c.instrs) × (body_at c away ≡ None)

  may_less : (o : Option Body) (p q away : ℕ) → p ≤ q → MayLeave o q away → MayLeave o p away
  may_less o p q away le m e = let x = m e in (omega (arith, le, x.0), x.1, x.2)

  no_way : (b : Body) (q away : ℕ) → MayLeave (Some b) q away
  no_way b q away e = absurd (cc)

  pub block_clean : (b : Block) (version away p q : ℕ) (o : Option Body) → IsFormed version (is_in_body o) b → ArePlaced c away p (lines b)
      → p + length (lines b) ≡ q → q < length c.instrs → Room c o q → MayLeave o q away → body_at c p ≡ o → HasNoFault p q
  block_clean Nothing version away p q o f h eq lt room m at = λ x low high. absurd (omega (arith, low, high, eq))
  block_clean (Does a) version away p q o f h eq lt room m at = clean_one p q eq (action_good a version away p o f at (omega (arith, eq, lt)) h.0)
  block_clean (Then x y) version away p q o f h eq lt room m at =
      let mid = p + length (lines x) in
      let both = placed_both c away p (lines x) (lines y) h in
      let eq2 : mid + length (lines y) ≡ q = omega (arith, eq, length-append (lines x) (lines y)) in
      let middle = body_past c x version away p mid o f.0 both.0 refl (omega (arith, eq2, lt)) (room_less c o mid q (omega (arith, eq2)) room) at in
      clean_both p mid q
      (block_clean x version away p mid o f.0 both.0 refl (omega (arith, eq2, lt)) (room_less c o mid q (omega (arith, eq2)) room)
      (may_less o mid q away (omega (arith, eq2)) m) at)
      (block_clean y version away mid q o f.1 both.1 eq2 lt room m middle)
  block_clean (Unless t x) version away p q o f h eq lt room m at =
      let eq2 : p + 1 + length (lines x) ≡ q = omega (arith, eq) in
      let first = body_next c p _ h.0.reads (test_each c t _) o at (room_less c o (p + 1) q (omega (arith, eq2)) room) in
      let following = body_past c x version away (p + 1) q o f.1 h.1 eq2 lt room first in
      clean_both p (p + 1) q
      (clean_one p (p + 1) refl (test_good t p q o (test_read t _ away p q (omega (arith, eq)) h.0) (omega (arith, eq2)) lt at following))
      (block_clean x version away (p + 1) q o f.1 h.1 eq2 lt room m first)
  block_clean (Either t x y) version away p q o f h eq lt room m at =
      let mid = p + 1 + length (lines x) in
      let both = placed_both c away (p + 1) (lines x) (Jumps (Ahead (length (lines y) + 1)) ∷ lines y) h.1 in
      let eq2 : mid + 1 + length (lines y) ≡ q = omega (arith, eq, length-append (lines x) (Jumps (Ahead (length (lines y) + 1)) ∷ lines y)) in
      let over : mid + (length (lines y) + 1) ≡ q = omega (arith, eq2) in
      let first = body_next c p _ h.0.reads (test_each c t _) o at (room_less c o (p + 1) q (omega (arith, eq2)) room) in
      let second = body_past c x version away (p + 1) mid o f.1 both.0 refl (omega (arith, eq2, lt)) (room_less c o mid q (omega (arith, eq2)) room) first in
      let third = body_next c mid _ both.1.0.reads refl o second (room_less c o (mid + 1) q (omega (arith, eq2)) room) in
      let following = body_past c y version away (mid + 1) q o f.2 both.1.1 eq2 lt room third in
      clean_both p (p + 1) q
      (clean_one p (p + 1) refl (test_good t p (mid + 1) o (test_read t _ away p (mid + 1) (omega arith) h.0) (omega arith) (omega (arith, eq2, lt)) at third))
      (clean_both (p + 1) mid q
      (block_clean x version away (p + 1) mid o f.1 both.0 refl (omega (arith, eq2, lt)) (room_less c o mid q (omega (arith, eq2)) room)
      (may_less o mid q away (omega (arith, eq2)) m) first)
      (clean_both mid (mid + 1) q
      (clean_one mid (mid + 1) refl (jump_good mid q (instruction.Jump q) o (subst (λ d. Reads c mid (instruction.Jump d)) over both.1.0.reads) refl refl refl
      refl (omega (arith, eq2)) lt second following))
      (block_clean y version away (mid + 1) q o f.2 both.1.1 eq2 lt room m third)))
  block_clean (ForEach a b x) version away p q o f h eq lt room m at =
      let last = p + 1 + length (lines x) in
      let both = placed_both c away (p + 1) (lines x) (Turns ∷ []) h.1 in
      let eq2 : last + 1 ≡ q = omega (arith, eq, length-append (lines x) (Turns ∷ [])) in
      let none = none_outside c o f.0 in
      let here = each_read c away p last a b _ (omega arith) h.0 in
      let inside = body_begins c p last a b here both.1.0.reads (omega arith) (omega (arith, eq2, lt)) (at ∙ none) in
      let end = body_past c x version away (p + 1) last (Some (loop_body c p last a)) f.3 both.0 refl (omega (arith, eq2, lt)) (omega arith) inside in
      clean_both p (p + 1) q
      (clean_one p (p + 1) refl (each_good p last a b here both.1.0.reads (omega arith) (omega (arith, eq2, lt)) (at ∙ none)))
      (clean_both (p + 1) last q
      (block_clean x version away (p + 1) last (Some (loop_body c p last a)) f.3 both.0 refl (omega (arith, eq2, lt)) (omega arith)
      (no_way (loop_body c p last a) last away) inside)
      (clean_one last q eq2 (next_good p last a both.1.0.reads end (omega (arith, eq2, lt)))))
  block_clean (LeaveIf t) version away p q o f h eq lt room m at = grind (arith, clean_one, test_good)
  block_clean Leave version away p q o f h eq lt room m at =
      let none = none_outside c o f in
      let out = m none in
      clean_one p q eq (jump_good p away (instruction.Jump away) None h.0.reads refl refl refl refl (omega (arith, eq, out.0)) out.1 (at ∙ none) out.2)
