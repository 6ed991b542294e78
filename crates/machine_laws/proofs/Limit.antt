-- No run of any code takes more steps than the number of its instructions times one more than that of the members.
use Rattle.std.proofs.Common.{◌≡◌, ℕ, zero, suc, ◌+◌, ◌-◌, ◌*◌, ◌<◌, ◌≤◌, length, Option, Some, None, refl, sym, ap, ◌∙◌, subst, arith, ⊎_elim}
use Rattle.std.specs.Prelude.{slice_get}
use Rattle.std.proofs.lemmas.Grind.{common_steps}
use Rattle.std.proofs.lemmas.Bool.{cases_lt}
use Rattle.std.proofs.lemmas.Option.{slice_get_past}
use Rattle.std.proofs.Math.Nat.{mul-le-mul_left, mul_comm}
use Rattle.environment_model.specs.Environment.{Environment, member_count, byte_count}
use Rattle.code_model.specs.Code.{Code}
use Rattle.code_model.specs.declared.code.Instruction.{Instruction}
use Rattle.machine_model.specs.Operands.{Reads}
use Rattle.machine_model.specs.States.{Loop, Frame, State, Running, Ended}
use Rattle.machine_model.specs.Step.{Move, IsInside, Leads, StepsTo}
use Rattle.machine_model.specs.Runs.{After}
use Rattle.machine_model.specs.Next.{step_limit}
use Rattle.machine_model.specs.Budget.{inside}
use Rattle.machine_laws.proofs.Shapes.{Shape, ends, onward, enters, again, leaves, shape}
use Rattle.machine_laws.proofs.Small.{FrameSmall, text_limit, small_after}

-- an instruction can be read only at a place of the code
pub reads_within : (c : Code) (p : ℕ) (i : Instruction) → Reads c p i → p < length c.instrs
reads_within c p i r = ⊎_elim (λ lt. lt) (λ le. let e : slice_get c.instrs p ≡ None = slice_get_past c.instrs p le in absurd (cc (e, r.spelled)))
    (cases_lt p (length c.instrs))

-- ---- arithmetic: W steps a place, B places in a body

step_past : (W p q k : ℕ) → 1 ≤ W → p < q → k ≤ W * p → k + 1 ≤ W * q
step_past W p q k one lt h = let le : p + 1 ≤ q = omega arith in let m = mul-le-mul_left W le in omega arith

turn_over : (x turns B e k : ℕ) → e + 1 ≡ B → k ≤ x + turns * B + e → k + 1 ≤ x + (turns + 1) * B
turn_over x turns B e k same h = omega arith

module _ (c : Code) (v : Environment) where
  -- place p of a loop has been reached after at most k steps
  pub record InTurn (l : Loop) (p k : ℕ) : Type 0 where
    pub low : l.start ≤ p
    pub high : p < l.end
    pub turns : ℕ
    pub few : turns + 1 + length l.left ≤ member_count v
    pub whole : 0 < turns → l.end ≤ length c.instrs
    pub bound : k ≤ (member_count v + 1) * l.start + turns * (l.end - l.start) + (p - l.start)

  abbrev pub AtMost : Option Loop → ℕ → ℕ → Type 0
  AtMost None p k = k ≤ (member_count v + 1) * p
  AtMost (Some l) p k = InTurn l p k

  -- a step past the end of a body
  past_body : (p k : ℕ) (l : Loop) → (h : InTurn l p k) → p + 1 ≡ l.end → k + 1 ≤ (member_count v + 1) * l.end
  past_body p k l h last = grind (arith, common_steps)

  -- the last turn ends at the end of the code, or its body is complete
  left_in_turn : (p k : ℕ) (l : Loop) (h : InTurn l p k) (turns : ℕ) → h.turns ≡ turns → p < length c.instrs → k + 1 ≤ (member_count v + 1) * length c.instrs
  left_in_turn p k l h zero e lt = grind (arith, common_steps)
  left_in_turn p k l h (suc turns) e lt =
      let high : p < l.end = h.high in
      let low : l.start ≤ p = h.low in
      let fits : l.end ≤ length c.instrs = h.whole (omega (arith, e)) in
      let last : InTurn l (l.end - 1) (k + (l.end - 1 - p)) = grind (arith, common_steps) in
      let over = past_body (l.end - 1) (k + (l.end - 1 - p)) l last (omega arith) in
      let m = mul-le-mul_left (member_count v + 1) fits in
      omega arith

  -- at a place of the code there is a step left within the limit
  steps_left : (l : Option Loop) (p k : ℕ) → AtMost l p k → p < length c.instrs → k + 1 ≤ (member_count v + 1) * length c.instrs
  steps_left None p k h lt = step_past (member_count v + 1) p (length c.instrs) k (omega arith) lt h
  steps_left (Some l) p k h lt = left_in_turn p k l h h.turns refl lt

  abbrev pub StateAtMost : State → ℕ → Type 0
  StateAtMost (Running s) k = AtMost s.loop s.place k
  StateAtMost (Ended e) k = Unit {0}

  onward_on : (p k : ℕ) (s : Frame) (l : Option Loop) → IsInside l s.place → p < s.place → AtMost l p k → AtMost l s.place (k + 1)
  onward_on p k s l i lt h = grind (arith, common_steps)

  by_shape : (s : Frame) (i : Instruction) (m : Move) (new : State) (k : ℕ) → FrameSmall (member_count v) (byte_count v) (text_limit c v) s
      → s.place < length c.instrs → Shape s i m → Leads c s.place m new → AtMost s.loop s.place k → StateAtMost new (k + 1)
  by_shape s i _ new k small lt (ends e) led h = subst (λ x. StateAtMost x (k + 1)) (sym led) tt
  by_shape s i _ new k small lt (onward f same kept) led h = grind (arith, onward_on)
  by_shape s i _ new k small lt (enters f l r u none held into first place inside holds) led h = grind (arith, common_steps)
  by_shape s i _ new k small lt (again f l l' u was into last left s1 s2 place holds) led h =
      let t : InTurn l s.place k = subst (λ o. AtMost o s.place k) was h in
      let low : l.start ≤ s.place = t.low in
      let same : (s.place - l.start) + 1 ≡ l.end - l.start = omega (arith, last) in
      let turn = turn_over ((member_count v + 1) * l.start) t.turns (l.end - l.start) (s.place - l.start) k same t.bound in
      let count : length l.left ≡ 1 + length l'.left = ap length left ∙ (omega arith) in
      let none : l.start - l.start ≡ 0 = omega arith in
      let next' : InTurn l' f.place (k + 1) = record {
        low = omega (arith, s1, place);
        high = omega (arith, s2, place, low, last);
        turns = t.turns + 1;
        few = omega (arith, t.few, count);
        whole = λ z. omega (arith, s2, last, lt);
        bound = rw (s1, s2, place, none) (omega (arith, turn));
      } in
      subst (λ y. StateAtMost y (k + 1)) (sym led) (subst (λ o. AtMost o f.place (k + 1)) (sym into) next')
  by_shape s i _ new k small lt (leaves f l was into last left place) led h = grind (arith, past_body)

  stepped : (old new : State) (k : ℕ) → After c v k old → StateAtMost old k → StepsTo c v old new → StateAtMost new (k + 1)
      × (k + 1 ≤ (member_count v + 1) * length c.instrs)
  stepped old new k a h st = grind (arith, reads_within, by_shape, small_after, shape, steps_left)

  pub at_most : (k : ℕ) (s : State) → After c v k s → StateAtMost s k × (k ≤ (member_count v + 1) * length c.instrs)
  unfolding After
  at_most zero s h = subst (λ x. StateAtMost x 0 × (0 ≤ (member_count v + 1) * length c.instrs)) (sym h) (omega arith, omega arith)
  at_most (suc k) s h =
      let e : k + 1 ≡ suc k = omega arith in
      subst (λ n. StateAtMost s n × (n ≤ (member_count v + 1) * length c.instrs)) e (stepped h.0 s k h.1 (at_most k h.0 h.1).0 h.2)

  -- no run takes more steps than the limit
  pub within_limit : (k : ℕ) (s : State) → After c v k s → k ≤ step_limit c v
  within_limit k s h = omega (arith, mul_comm (member_count v + 1) (length c.instrs), (at_most k s h).1)
