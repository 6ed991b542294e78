-- What the runs of a typable code of good form spend, step by step.
use Rattle.std.proofs.Common.{◌≡◌, ℕ, ◌+◌, ◌*◌, ◌<◌, ◌≤◌, length, Option, Some, None, sym, ap, ◌∙◌, subst, arith}
use Rattle.std.specs.Prelude.{option_map, sum_by}
use Rattle.std.proofs.lemmas.List.Sums.{sum_by-cons}
use Rattle.environment_model.specs.Environment.{Environment, member_count, byte_count}
use Rattle.code_model.specs.Code.{Code, reading_at}
use Rattle.code_model.specs.declared.code.Instruction.{Instruction}
use Rattle.machine_model.specs.States.{Loop, Frame, State, Running, Ended}
use Rattle.machine_model.specs.Step.{Move, Leads, StepsTo}
use Rattle.machine_model.specs.Runs.{After}
use Rattle.machine_model.proofs.Readings.{Reads-reading_at}
use Rattle.machine_model.specs.Form.{body_at, HasGoodForm}
use Rattle.machine_model.specs.Typable.{Table, IsClosed, MeetsNeeds}
use Rattle.machine_model.specs.Budget.{outside, inside}
use Rattle.machine_model.specs.Fitting.{body_of}
use Rattle.machine_laws.proofs.Safety.{reached}
use Rattle.machine_laws.proofs.Shapes.{Shape, ends, onward, enters, again, leaves, shape}
use Rattle.machine_laws.proofs.Small.{FrameSmall, IsSmall, text_limit, small_after}
use Rattle.machine_laws.proofs.AtHand.{hand_in, at_hand, hand_stays, hand_of_turn}
use Rattle.machine_laws.proofs.Potential.{SpentIn, Within, spent_onward, spent_entering, spent_leaving, spent_again, spent_at_end}

module _ (c : Code) (w t : ℕ → ℕ) (M E : ℕ) where
  -- g was spent by a state
  abbrev pub StateSpent : State → ℕ → Type 0
  StateSpent (Running s) g = SpentIn c w t M E s.loop (at_hand c s) s.place g
  StateSpent (Ended e) g = g ≤ outside c w + M * inside c w + E * inside c t

  -- what a step from a frame may spend
  abbrev pub StepWithin : Frame → ℕ → ℕ → Type 0
  StepWithin s g g' = Within c w t M E s.loop (at_hand c s) s.place g g'

  -- a step may spend the weight of its place, whatever the member
  pub within_weight : (l : Option Loop) (member p g g' : ℕ) → g' ≤ g + w p → Within c w t M E l member p g g'
  within_weight None member p g g' le = le
  within_weight (Some l) member p g g' le = omega arith

  to : (f : Frame) (l : Option Loop) (p g : ℕ) → f.loop ≡ l → f.place ≡ p → SpentIn c w t M E l (hand_in c f.registers l) p g → StateSpent (Running f) g
  to f l p g el ep h =
      subst (λ o. SpentIn c w t M E o (hand_in c f.registers o) f.place g) (sym el) (subst (λ q. SpentIn c w t M E l (hand_in c f.registers l) q g) (sym ep) h)

  -- spending with the loop known
  in_loop : (s : Frame) (l : Option Loop) (g g' : ℕ) → s.loop ≡ l → StateSpent (Running s) g → StepWithin s g g'
      → SpentIn c w t M E l (hand_in c s.registers l) s.place g × Within c w t M E l (hand_in c s.registers l) s.place g g'
  in_loop s l g g' e h le = subst (λ o. SpentIn c w t M E o (hand_in c s.registers o) s.place g × Within c w t M E o (hand_in c s.registers o) s.place g g') e
      (h, le)

  spent_by : (n : ℕ) (s : Frame) (i : Instruction) (m : Move) (new : State) (g g' : ℕ) → option_map body_of s.loop ≡ body_at c s.place
      → s.place < length c.instrs → reading_at c s.place ≡ Some i → FrameSmall M E n s → Shape s i m → Leads c s.place m new → StateSpent (Running s) g
      → StepWithin s g g' → StateSpent new g'
  spent_by n s i _ new g g' b lt read small (ends e) led h le =
      subst (λ x. StateSpent x g') (sym led) (spent_at_end c w t M E s.place g g' (at_hand c s) s.loop b lt h le)
  spent_by n s i _ new g g' b lt read small (onward f same kept) led h le =
      let r = spent_onward c w t M E s.place f.place g g' (at_hand c s) s.loop b led.0.forward h le in
      let r' = subst (λ o. SpentIn c w t M E o (at_hand c s) f.place g') (sym same) r in
      subst (λ x. StateSpent x g') (sym led.1) (subst (λ m. SpentIn c w t M E f.loop m f.place g') (sym (hand_stays c s f i b read same kept)) r')
  spent_by n s i _ new g g' b lt read small (enters f l r u none held into first place inside holds) led h le =
      let e : body_at c s.place ≡ None = sym b ∙ ap (option_map body_of) none in
      let k = in_loop s None g g' none h le in
      let x = subst (IsSmall M E n) held (small.registers r) in
      let few : 1 + length l.left ≤ M = omega (arith, x.0) in
      let bytes : length u + sum_by length l.left ≤ E = rw (sum_by-cons length u l.left) at x.1 in
      let short = hand_of_turn c f.registers l u holds in
      let r' = spent_entering c w t M E s.place g g' (hand_in c f.registers (Some l)) l e (first ∙ place) few (omega (arith, short, bytes)) k.0 k.1 in
      subst (λ x. StateSpent x g') (sym led.1) (to f (Some l) l.start g' into (sym first) r')
  spent_by n s i _ new g g' b lt read small (again f l l' u was into last left s1 s2 place holds) led h le =
      let e : Some (body_of l) ≡ body_at c s.place = sym (ap (option_map body_of) was) ∙ b in
      let k = in_loop s (Some l) g g' was h le in
      let r' = spent_again c w t M E s.place g g' (hand_in c s.registers (Some l)) (hand_in c f.registers (Some l')) l l' u e left
      (hand_of_turn c f.registers l' u holds) s1 s2 k.0 k.1 in
      subst (λ x. StateSpent x g') (sym led) (to f (Some l') l.start g' into place r')
  spent_by n s i _ new g g' b lt read small (leaves f l was into last left place) led h le =
      let e : Some (body_of l) ≡ body_at c s.place = sym (ap (option_map body_of) was) ∙ b in
      let k = in_loop s (Some l) g g' was h le in
      let r' = spent_leaving c w t M E s.place g g' (hand_in c s.registers (Some l)) l e k.0 k.1 in
      subst (λ x. StateSpent x g') (sym led.1) (to f None l.end g' into place r')

-- a typable code of good form, on an environment
module _ (c : Code) (form : HasGoodForm c) (some : 0 < length c.instrs) (t : Table) (closed : IsClosed c t) (meets : MeetsNeeds c t) (v : Environment) where
  -- one step of any run
  pub spent_step : (w u : ℕ → ℕ) (k : ℕ) (s : Frame) (new : State) (g g' : ℕ) → After c v k (Running s) → StepsTo c v (Running s) new
      → StateSpent c w u (member_count v) (byte_count v) (Running s) g → StepWithin c w u (member_count v) (byte_count v) s g g'
      → StateSpent c w u (member_count v) (byte_count v) new g'
  spent_step w u k s new g g' a st h le =
      let r = reached c form some t closed meets v k (Running s) a in
      spent_by c w u (member_count v) (byte_count v) (text_limit c v) s st.0 st.2 new g g' r.body r.within (Reads-reading_at c s.place st.0 st.1)
      (small_after c v k (Running s) a) (shape c v s st.0 st.2 st.3) st.4 h le
