-- A typable code of good form ends within its step bound.
use Rattle.std.proofs.Common.{◌≡◌, ℕ, zero, suc, ◌+◌, ◌*◌, ◌<◌, ◌≤◌, length, refl, sym, subst, arith}
use Rattle.std.proofs.Math.Nat.{mul_comm}
use Rattle.environment_model.specs.Environment.{Environment, member_count, byte_count}
use Rattle.code_model.specs.Code.{Code}
use Rattle.machine_model.specs.States.{Frame, End, State, Running, Ended, start}
use Rattle.machine_model.specs.Step.{StepsTo}
use Rattle.machine_model.specs.Runs.{After}
use Rattle.machine_model.specs.Form.{HasGoodForm}
use Rattle.machine_model.specs.Typable.{Table, IsClosed, MeetsNeeds}
use Rattle.machine_model.specs.Budget.{inside, sums_of, steps_bound}
use Rattle.machine_laws.proofs.Sums.{total_zero}
use Rattle.machine_laws.proofs.Safety.{reached, stepping}
use Rattle.machine_laws.proofs.Potential.{spent_at_end}
use Rattle.machine_laws.proofs.AtHand.{at_hand}
use Rattle.machine_laws.proofs.StepCosts.{StateSpent, within_weight, spent_step}

-- if no place has the second weight, the bodies have none
no_second : (c : Code) → inside c (λ p. 0) ≡ 0
no_second c = grind (arith, total_zero)

module _ (c : Code) (form : HasGoodForm c) (some : 0 < length c.instrs) (t : Table) (closed : IsClosed c t) (meets : MeetsNeeds c t) (v : Environment) where
  -- each step costs one
  steps_spent : (k : ℕ) (s : State) → After c v k s → StateSpent c (λ p. 1) (λ p. 0) (member_count v) (byte_count v) s k
  unfolding After
  steps_spent zero s h = subst (λ x. StateSpent c (λ p. 1) (λ p. 0) (member_count v) (byte_count v) x 0) (sym h) (omega arith)
  steps_spent (suc k) s h = by_state h.0 h.1 h.2 (steps_spent k h.0 h.1)
    where
      by_state : (old : State) → After c v k old → StepsTo c v old s → StateSpent c (λ p. 1) (λ p. 0) (member_count v) (byte_count v) old k
          → StateSpent c (λ p. 1) (λ p. 0) (member_count v) (byte_count v) s (suc k)
      by_state (Ended e) a st sp = absurd st
      by_state (Running o) a st sp =
          spent_step c form some t closed meets v (λ p. 1) (λ p. 0) k o s k (suc k) a st sp
          (within_weight c (λ p. 1) (λ p. 0) (member_count v) (byte_count v) o.loop (at_hand c o) o.place k (suc k) (omega arith))

  -- a running state has a step left within the bound
  steps_left : (k : ℕ) (s : Frame) → After c v k (Running s) → k + 1 ≤ steps_bound (sums_of c) (member_count v)
  steps_left k s h =
      let r = reached c form some t closed meets v k (Running s) h in
      let a = spent_at_end c (λ p. 1) (λ p. 0) (member_count v) (byte_count v) s.place k (k + 1) (at_hand c s) s.loop r.body r.within
      (steps_spent k (Running s) h) (within_weight c (λ p. 1) (λ p. 0) (member_count v) (byte_count v) s.loop (at_hand c s) s.place k (k + 1)
      (omega arith)) in
      let z : byte_count v * inside c (λ p. 0) ≡ 0 = rw (no_second c) (omega arith) in
      omega (arith, mul_comm (member_count v) (inside c (λ p. 1)), a, z)

  abbrev pub EndsInTime : Type 0
  EndsInTime = (k : ℕ) × (e : End) × After c v k (Ended e) × (k ≤ steps_bound (sums_of c) (member_count v))

  next_after : (k : ℕ) (s : Frame) (new : State) → After c v k (Running s) → StepsTo c v (Running s) new → After c v (suc k) new
  unfolding After
  next_after k s new h st = (Running s, h, st)

  go_on : (fuel k : ℕ) (s : Frame) → After c v k (Running s) → fuel + k ≡ steps_bound (sums_of c) (member_count v) → EndsInTime
  go_on zero k s h e = absurd (omega (arith, steps_left k s h))
  go_on (suc fuel) k s h e =
      let m = stepping c form some t closed meets v s (reached c form some t closed meets v k (Running s) h) in
      by_state (λ n a. go_on fuel (suc k) n a (omega arith)) m.0 (next_after k s m.0 h m.1)
    where
      by_state : ((n : Frame) → After c v (suc k) (Running n) → EndsInTime) → (new : State) → After c v (suc k) new → EndsInTime
      by_state next (Ended e) a = (suc k, e, a, omega (arith, steps_left k s h))
      by_state next (Running n) a = next n a

  pub ends_in_time : EndsInTime
  unfolding After
  ends_in_time = go_on (steps_bound (sums_of c) (member_count v)) 0 start refl (omega arith)
