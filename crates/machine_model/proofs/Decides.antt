-- The relations of the machine are decided by its functions, so a run has one course.
use Rattle.std.proofs.Common.{◌≡◌, ℕ, zero, suc, Option, Some, None, refl, sym, ap, ◌∙◌, arith}
use Rattle.std.specs.Prelude.{◌↔◌, option_and_then}
use Rattle.std.proofs.lemmas.Grind.{common_steps}
use Rattle.std.proofs.lemmas.Option.{same_Some}
use Rattle.environment_model.specs.Environment.{Environment}
use Rattle.code_model.specs.Code.{Code}
use Rattle.code_model.specs.declared.code.Instruction.{Instruction}
use Rattle.machine_model.specs.Operands.{Reads}
use Rattle.machine_model.specs.States.{Frame, State, Running, Ended}
use Rattle.machine_model.specs.Step.{Move, Leads, StepsTo}
use Rattle.machine_model.specs.Runs.{After}
use Rattle.machine_model.specs.Next.{instruction_at, move_of, judged, next_state, state_after}
use Rattle.machine_model.proofs.Moves.{move_of-does, does-move_of}
use Rattle.machine_model.proofs.Readings.{Reads-instruction_at, instruction_at-Reads}

module _ (c : Code) (from : ℕ) where
  Leads-judged : (m : Move) (new : State) → Leads c from m new → judged c from m ≡ Some new
  Leads-judged m new h = grind (arith, common_steps)

  judged-Leads : (m : Move) (new : State) → judged c from m ≡ Some new → Leads c from m new
  judged-Leads m new h = grind (arith, common_steps)

module _ (c : Code) (v : Environment) where
  pub StepsTo-next_state : (old new : State) → StepsTo c v old new → next_state c v old ≡ Some new
  StepsTo-next_state (Ended e) new h = absurd h
  StepsTo-next_state (Running s) new h = rw (Reads-instruction_at c s.place h.0 h.1, move_of-does c v s h.0 h.2 h.3) (Leads-judged c s.place h.2 new h.4)

  by_move : (s : Frame) (new : State) (i : Instruction) → Reads c s.place i → (o : Option Move) → move_of c v s i ≡ o → option_and_then (judged c s.place) o
      ≡ Some new → StepsTo c v (Running s) new
  by_move s new i r None e h = absurd (cc)
  by_move s new i r (Some m) e h = (i, r, m, does-move_of c v s i m e, judged-Leads c s.place m new h)

  by_instruction : (s : Frame) (new : State) (o : Option Instruction) → instruction_at c s.place ≡ o
      → option_and_then (λ i. option_and_then (judged c s.place) (move_of c v s i)) o ≡ Some new → StepsTo c v (Running s) new
  by_instruction s new None e h = absurd (cc)
  by_instruction s new (Some i) e h = by_move s new i (instruction_at-Reads c s.place i e) (move_of c v s i) refl h

  pub next_state-StepsTo : (old new : State) → next_state c v old ≡ Some new → StepsTo c v old new
  next_state-StepsTo (Ended e) new h = absurd (cc)
  next_state-StepsTo (Running s) new h = by_instruction s new (instruction_at c s.place) refl h

  -- a step leads to the state that the function gives, and to no other
  pub step_decided : (old new : State) → StepsTo c v old new ↔ (next_state c v old ≡ Some new)
  step_decided old new = (StepsTo-next_state old new, next_state-StepsTo old new)

  -- no state has two next states
  pub step_one : (s new other : State) → StepsTo c v s new → StepsTo c v s other → new ≡ other
  step_one s new other h g = same_Some _ _ (sym (StepsTo-next_state s new h) ∙ StepsTo-next_state s other g)

  pub After-state_after : (k : ℕ) (s : State) → After c v k s → state_after c v k ≡ Some s
  unfolding After state_after
  After-state_after zero s h = ap Some (sym h)
  After-state_after (suc k) s h = rw (After-state_after k h.0 h.1) (StepsTo-next_state h.0 s h.2)

  state_after-After : (k : ℕ) (s : State) → state_after c v k ≡ Some s → After c v k s
  unfolding After state_after
  state_after-After zero s h = sym (same_Some _ _ h)
  state_after-After (suc k) s h = by_state (state_after-After k) (state_after c v k) refl h
    where
      by_state : ((old : State) → state_after c v k ≡ Some old → After c v k old) → (o : Option State) → state_after c v k ≡ o
          → option_and_then (next_state c v) o ≡ Some s → (old : State) × After c v k old × StepsTo c v old s
      by_state before None e h = absurd (cc)
      by_state before (Some old) e h = (old, before old e, next_state-StepsTo old s h)

  -- the state after k steps is the one that the function gives
  pub after_decided : (k : ℕ) (s : State) → After c v k s ↔ (state_after c v k ≡ Some s)
  after_decided k s = (After-state_after k s, state_after-After k s)

  -- there is at most one state after k steps
  pub after_one : (k : ℕ) (s t : State) → After c v k s → After c v k t → s ≡ t
  after_one k s t h g = same_Some _ _ (sym (After-state_after k s h) ∙ After-state_after k t g)
