-- The current member of a loop whose body does not write its element: the element's register holds it until the next turn.
use Rattle.std.proofs.Common.{◌≡◌, ℕ, zero, suc, ◌+◌, ◌-◌, ◌<◌, ◌≤◌, length, Option, Some, None, Bool, true, false, refl, sym, ap, subst, arith, ⊎_elim}
use Rattle.std.specs.Prelude.{if◌then◌else◌, option_map, not}
use Rattle.std.proofs.lemmas.Grind.{common_steps}
use Rattle.std.proofs.lemmas.Bool.{and_parts, cases_lt}
use Rattle.text_model.specs.Texts.{Text}
use Rattle.code_model.specs.Code.{Code, reading_at}
use Rattle.code_model.specs.declared.code.Instruction.{Instruction}
use Rattle.machine_model.specs.declared.form.Body.{Body}
use Rattle.machine_model.specs.Values.{Value, Text as TextValue}
use Rattle.machine_model.specs.States.{Loop, Frame}
use Rattle.machine_model.specs.Form.{body_at}
use Rattle.machine_model.specs.Budget.{writes, is_kept, keeps_element}
use Rattle.machine_model.specs.Fitting.{body_of}
use Rattle.machine_model.proofs.Bodies.{is_in}
use Rattle.machine_laws.proofs.Shapes.{KeepsOthers}

abbrev pub value_bytes : Value → ℕ
value_bytes (TextValue t) = length t
value_bytes x = 0

module _ (c : Code) where
  -- the length of the current member, if the loop's body does not write its element
  abbrev pub hand_in : (ℕ → Value) → Option Loop → ℕ
  hand_in regs None = 0
  hand_in regs (Some l) = if keeps_element c (body_of l) then value_bytes (regs l.element) else 0

  abbrev pub at_hand : Frame → ℕ
  at_hand s = hand_in s.registers s.loop

  -- in a body that does not write its element no instruction does
  kept_at : (r p n q : ℕ) → is_kept c r p n ≡ true → p ≤ q → q < p + n → writes r (reading_at c q) ≡ false
  unfolding is_kept
  kept_at r p zero q k low high = absurd (omega arith)
  kept_at r p (suc n) q k low high =
      let both = and_parts (is_kept c r p n) (not (writes r (reading_at c (p + n)))) k in
      ⊎_elim (λ lt. kept_at r p n q both.0 low lt) (λ le. let e : p + n ≡ q = omega arith in
      subst (λ m. writes r (reading_at c m) ≡ false) e (denied (writes r (reading_at c (p + n))) both.1)) (cases_lt q (p + n))
    where
      denied : (t : Bool) → not t ≡ true → t ≡ false
      denied t h = grind (arith, common_steps)

  pub unwritten : (p : ℕ) (b : Body) → body_at c p ≡ Some b → keeps_element c b ≡ true → writes b.element (reading_at c p) ≡ false
  unwritten p b here k =
      let i = is_in c p b here in
      let low : b.start ≤ p = i.low in
      kept_at b.element b.start (b.end - b.start) p k low (omega arith)

  -- the member stays as long as the same loop, or none, runs
  pub hand_stays : (s f : Frame) (i : Instruction) → option_map body_of s.loop ≡ body_at c s.place → reading_at c s.place ≡ Some i → f.loop ≡ s.loop
      → KeepsOthers i s f → at_hand f ≡ at_hand s
  hand_stays s f i b r same kept = subst (λ l. hand_in f.registers l ≡ hand_in s.registers s.loop) (sym same) (by_loop s.loop b)
    where
      by_loop : (l : Option Loop) → option_map body_of l ≡ body_at c s.place → hand_in f.registers l ≡ hand_in s.registers l
      by_loop None e = refl
      by_loop (Some l) e = by_test (keeps_element c (body_of l)) refl
        where
          by_test : (t : Bool) → keeps_element c (body_of l) ≡ t → (if t then value_bytes (f.registers l.element) else 0)
              ≡ (if t then value_bytes (s.registers l.element) else 0)
          by_test false k = refl
          by_test true k = ap value_bytes (kept l.element (subst (λ o. writes l.element o ≡ false) r (unwritten s.place (body_of l) (sym e) k)))

  -- at the beginning of a turn it is the member of the turn
  pub hand_of_turn : (regs : ℕ → Value) (l : Loop) (u : Text) → regs l.element ≡ TextValue u → hand_in regs (Some l) ≤ length u
  hand_of_turn regs l u holds = grind (arith, common_steps)
