-- A code does the same after it is upgraded to version 2.

use Rattle.std.proofs.Common.{◌≡◌, ℕ, zero, suc, Option, Some, None, Bool, true, refl, sym, ◌∙◌, arith, ◌⊎◌, ⊎_elim}
use Rattle.std.proofs.lemmas.Grind.{common_steps}
use Rattle.std.specs.Prelude.{nat_lt, ◌==◌, if◌then◌else◌}
use Rattle.text_model.specs.Texts.{Text}
use Rattle.environment_model.specs.Environment.{Environment}
use Rattle.code_model.specs.Code.{Code, reading, reading_at, upgraded}
use Rattle.code_model.specs.Operands.{Operand, Register}
use Rattle.code_model.specs.declared.code.Instr.{Instr}
use Rattle.code_model.specs.declared.code.Instruction.{Instruction}
use Rattle.code_model.specs.declared.code.Instruction.TheVariants.{Count}
use Rattle.machine_model.specs.Operands.{is_register, has_right_operands, Reads}
use Rattle.machine_model.specs.States.{Frame, State, Running, Ended}
use Rattle.machine_model.specs.Step.{Move, Leads, StepsTo}
use Rattle.machine_model.specs.Runs.{After, EndsWith, Outcome, Link, NoLink, Stuck}
use Rattle.machine_model.specs.Next.{move_of}
use Rattle.machine_model.proofs.Moves.{move_of-does, does-move_of}

-- ---- version 2 reads what another version reads; where that reads nothing, version 2 reads nothing or a COUNT

readings : (v : ℕ) (f : Instr) → (reading v f ≡ reading 2 f) ⊎ ((reading v f ≡ None) × (reading 2 f ≡ Some (Count f.a f.b)))
unfolding reading
readings v f = grind (arith, common_steps)

pub reading_more : (v : ℕ) (f : Instr) (i : Instruction) → reading v f ≡ Some i → reading 2 f ≡ Some i
reading_more v f i h = ⊎_elim (λ same. sym same ∙ h) (λ other. absurd (cc (other.0, h))) (readings v f)

-- nothing is read at a place, but version 2 reads a COUNT
abbrev NowCounts : Option Instruction → Option Instruction → Type 0
NowCounts before now = (before ≡ None) × ((a b : ℕ) × (now ≡ Some (Count a b)))

module _ (c : Code) where
  pub read_at : (p : ℕ) → (reading_at c p ≡ reading_at (upgraded c) p) ⊎ NowCounts (reading_at c p) (reading_at (upgraded c) p)
  read_at p = grind (arith, readings)

  -- ---- operands

  by_count : (n : ℕ) (t : Bool) → nat_lt n (if t then 64 else 16) ≡ true → nat_lt n 64 ≡ true
  by_count n t k = grind (arith, common_steps)

  pub register_more : (o : Operand) → is_register c o ≡ true → is_register (upgraded c) o ≡ true
  register_more (Register n) k = by_count n (c.version == 2) k
  register_more _ k = refl

  right_more : (i : Instruction) → has_right_operands c i ≡ true → has_right_operands (upgraded c) i ≡ true
  unfolding has_right_operands
  right_more i h = grind (arith, common_steps)

  pub reads_more : (p : ℕ) (i : Instruction) → Reads c p i → Reads (upgraded c) p i
  reads_more p i r = record { spelled = r.spelled; known = reading_more c.version _ i r.known; right = right_more i r.right }

  -- ---- steps

  moves_same : (v : Environment) (s : Frame) (i : Instruction) → move_of c v s i ≡ move_of (upgraded c) v s i
  moves_same v s i = grind (arith, common_steps)

  leads_same : (from : ℕ) (m : Move) (new : State) → Leads c from m new → Leads (upgraded c) from m new
  leads_same from m new h = grind (arith, common_steps)

  step_more : (v : Environment) (old new : State) → StepsTo c v old new → StepsTo (upgraded c) v old new
  step_more v (Ended e) new h = h
  step_more v (Running s) new h =
      let does = does-move_of (upgraded c) v s h.0 h.2 (sym (moves_same v s h.0) ∙ move_of-does c v s h.0 h.2 h.3) in
      (h.0, reads_more s.place h.0 h.1, h.2, does, leads_same s.place h.2 new h.4)

  -- the same states are reached after the same number of steps
  pub after_more : (v : Environment) (k : ℕ) (s : State) → After c v k s → After (upgraded c) v k s
  unfolding After
  after_more v zero s h = h
  after_more v (suc k) s h = (h.0, after_more v k h.0 h.1, step_more v h.0 s h.2)

  pub outcome_kept : (v : Environment) (k : ℕ) (o : Outcome) → (o ≡ NoLink) ⊎ ((text : Text) × (o ≡ Link text)) → EndsWith c v k o → EndsWith (upgraded c) v k o
  outcome_kept v k (Link text) n h = after_more v k _ h
  outcome_kept v k NoLink n h = after_more v k _ h
  outcome_kept v k (Stuck place) n h = absurd (⊎_elim (λ e. cc) (λ e. absurd (cc (e.1))) n)
