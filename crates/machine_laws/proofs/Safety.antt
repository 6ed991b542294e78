-- Every state that a typable code of good form reaches conforms to a table of kinds.

use Rattle.std.proofs.Common.{ℕ, zero, suc, ◌<◌, length, refl, sym, subst}
use Rattle.std.specs.List.{AllByRecursion}
use Rattle.environment_model.specs.Environment.{Environment}
use Rattle.code_model.specs.Code.{Code}
use Rattle.code_model.specs.declared.code.Instruction.{Instruction}
use Rattle.machine_model.specs.States.{Frame, State, Running, Ended, start}
use Rattle.machine_model.specs.Step.{StepsTo}
use Rattle.machine_model.specs.Runs.{After, IsStuck}
use Rattle.machine_model.specs.Form.{body_at, HasGoodForm}
use Rattle.machine_model.specs.Kinds.{any_kinds, needs, edges, for_instruction}
use Rattle.machine_model.specs.Typable.{Table, Holds, IsClosed, IsMet, MeetsNeeds, IsTypable}
use Rattle.machine_model.proofs.Decides.{step_one}
use Rattle.machine_model.proofs.GoodPlaces.{IsGood, good_at}
use Rattle.machine_model.specs.Fitting.{Conforms}
use Rattle.machine_laws.proofs.Sound.{Continues, StateConforms, moves}

-- every reached state of a typable code of good form is described by the table, and continues
module _ (c : Code) (form : HasGoodForm c) (starts : 0 < length c.instrs) (t : Table) (closed : IsClosed c t) (meets : MeetsNeeds c t) (v : Environment) where
  begins : Conforms c t start
  unfolding body_at
  begins = record { kinds = any_kinds; known = closed.first; fits = record { at = λ r. refl }; within = starts; body = refl }

  pub moves_on : (s : Frame) (k : Conforms c t s) → (op : Instruction) × Continues c t v s op × IsGood c s.place op
  moves_on s k =
      let g = good_at c form s.place k.within in
      let n = subst (λ o. AllByRecursion (IsMet k.kinds) (for_instruction o needs)) g.1.read (meets.at s.place k.kinds k.known) in
      let h = subst (λ o. AllByRecursion (Holds t) (for_instruction o (edges s.place k.kinds (body_at c s.place)))) g.1.read
      (closed.along s.place k.kinds k.known) in
      (g.0, moves c t v s k g.0 g.1 n h, g.1)

  pub stepping : (s : Frame) → Conforms c t s → (new : State) × StepsTo c v (Running s) new × StateConforms c t new
  stepping s k = let m = moves_on s k in (m.1.1, (m.0, m.2.reads, m.1.0, m.1.2, m.1.3), m.1.4)

  pub conforms_on : (s : State) (new : State) → StateConforms c t s → StepsTo c v s new → StateConforms c t new
  conforms_on (Ended e) new k st = absurd st
  conforms_on (Running s) new k st =
      let m = stepping s k in
      subst (StateConforms c t) (step_one c v (Running s) m.0 new m.1 st) m.2

  pub reached : (k : ℕ) (s : State) → After c v k s → StateConforms c t s
  unfolding After
  reached zero s h = subst (StateConforms c t) (sym h) begins
  reached (suc k) s h = conforms_on h.0 s (reached k h.0 h.1) h.2

  pub not_stuck : (s : State) → StateConforms c t s → IsStuck c v s → ⊥
  not_stuck (Ended e) k h = h
  not_stuck (Running s) k h = let m = stepping s k in h m.0 m.1

-- a typable code of good form never gets stuck
pub never_stuck : (c : Code) → HasGoodForm c → 0 < length c.instrs → IsTypable c → (v : Environment) (k : ℕ) (s : State) → After c v k s → IsStuck c v s → ⊥
never_stuck c form starts y v k s h = not_stuck c form starts y.0 y.1 y.2 v s (reached c form starts y.0 y.1 y.2 v k s h)
