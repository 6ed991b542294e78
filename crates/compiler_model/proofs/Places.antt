-- Lines that a code contains, and frames from which the machine reaches an end.
use Rattle.std.proofs.Common.{◌≡◌, ℕ, suc, ◌+◌, ◌<◌, List, [], ◌∷◌, ◌++◌, length, Option, true, false, refl, sym, subst, arith}
use Rattle.std.proofs.lemmas.Option.{slice_get_within}
use Rattle.machine_laws.proofs.Courses.{after_suc}
use Rattle.environment_model.specs.Environment.{Environment}
use Rattle.code_model.specs.Code.{Code, spelling}
use Rattle.code_model.specs.declared.code.Instruction.{Instruction}
use Rattle.machine_model.specs.Operands.{Reads, name_at, literal_at}
use Rattle.machine_model.specs.States.{Loop, Frame, End, State, Running, Ended}
use Rattle.machine_model.specs.Step.{Ends, MovesTo, Returns, Does, IsInside, StepsTo}
use Rattle.machine_model.specs.Runs.{After}
use Rattle.compiler_model.specs.declared.lines.Action.TheVariants.{LoadText, LoadList, LoadConst, Emits, Separates}
use Rattle.compiler_model.specs.declared.lines.Line.{Line}
use Rattle.compiler_model.specs.declared.lines.Line.TheVariants.{Acts}
use Rattle.compiler_model.specs.Tables.{name_index, literal_index}
use Rattle.compiler_model.specs.Compiled.{line_instruction}
use Rattle.compiler_model.proofs.Effects.{Store}

-- the tables have the text that an action uses
abbrev pub HasText : Code → Line → Type 0
HasText c (Acts (LoadText a name)) = name_at c (name_index c.names false name) ≡ name
HasText c (Acts (LoadList a name)) = name_at c (name_index c.names true name) ≡ name
HasText c (Acts (LoadConst a t)) = literal_at c (literal_index c.literals true t) ≡ t
HasText c (Acts (Emits t)) = literal_at c (literal_index c.literals false t) ≡ t
HasText c (Acts (Separates t)) = literal_at c (literal_index c.literals false t) ≡ t
HasText c line = Unit {0}

-- a line's instruction is at a place
pub record IsPlaced (c : Code) (away place : ℕ) (line : Line) : Type 0 where
  pub reads : Reads c place (line_instruction c.names c.literals away place line)
  pub text : HasText c line

-- the code has the lines one after another from a place on
abbrev pub ArePlaced : Code → ℕ → ℕ → List Line → Type 0
ArePlaced c away place [] = Unit {0}
ArePlaced c away place (line ∷ rest) = IsPlaced c away place line × ArePlaced c away (place + 1) rest

pub placed_both : (c : Code) (away place : ℕ) (a b : List Line) → ArePlaced c away place (a ++ b) → ArePlaced c away place a
    × ArePlaced c away (place + length a) b
placed_both c away place [] b h = (tt, let e : place + 0 ≡ place = omega arith in subst (λ p. ArePlaced c away p b) (sym e) h)
placed_both c away place (x ∷ a) b h =
    let both = placed_both c away (place + 1) a b h.1 in
    let e : place + 1 + length a ≡ place + length (x ∷ a) = omega arith in
    ((h.0, both.0), subst (λ p. ArePlaced c away p b) e both.1)

-- the machine runs from a frame to an end
pub data Finishes (c : Code) (v : Environment) (e : End) : Frame → Type 0 where
  ends : (s : Frame) → StepsTo c v (Running s) (Ended e) → Finishes c v e s
  moves : (s t : Frame) → StepsTo c v (Running s) (Running t) → Finishes c v e t → Finishes c v e s

step_within : (c : Code) (v : Environment) (s : Frame) (new : State) → StepsTo c v (Running s) new → s.place < length c.instrs
step_within c v s new st = slice_get_within c.instrs s.place (spelling st.0) st.1.spelled

pub finishes_within : (c : Code) (v : Environment) (e : End) (s : Frame) → Finishes c v e s → s.place < length c.instrs
finishes_within c v e _ (ends s st) = step_within c v s _ st
finishes_within c v e _ (moves s t st f) = step_within c v s _ st

-- a run that reaches such a frame reaches the end
pub finishes_after : (c : Code) (v : Environment) (e : End) (s : Frame) → Finishes c v e s → (k : ℕ) → After c v k (Running s) → (j : ℕ) × After c v j (Ended e)
finishes_after c v e _ (ends s st) k h = (suc k, after_suc c v k (Running s) (Ended e) h st)
finishes_after c v e _ (moves s t st f) k h = finishes_after c v e t f (suc k) (after_suc c v k (Running s) (Running t) h st)

-- a store at a place, in a loop or in none
abbrev pub at_place : ℕ → Option Loop → Store → Frame
at_place p l s = record { place = p; registers = s.registers; loop = l; output = s.output }

module _ (c : Code) (v : Environment) (e : End) where
  pub onward : (s t : Frame) (i : Instruction) → Reads c s.place i → Does c v s i (MovesTo t) → s.place < t.place → IsInside t.loop t.place → Finishes c v e t
      → Finishes c v e s
  onward s t i r d lt inside f = moves s t (i, r, MovesTo t, d, (record { forward = lt; within = finishes_within c v e t f; inside = inside }, refl)) f

  pub again : (s t : Frame) (i : Instruction) → Reads c s.place i → Does c v s i (Returns t) → Finishes c v e t → Finishes c v e s
  again s t i r d f = moves s t (i, r, Returns t, d, refl) f

  pub at_end : (s : Frame) (i : Instruction) → Reads c s.place i → Does c v s i (Ends e) → Finishes c v e s
  at_end s i r d = ends s (i, r, Ends e, d, refl)

  pub same_place : (p q : ℕ) (l : Option Loop) (s : Store) → p ≡ q → Finishes c v e (at_place q l s) → Finishes c v e (at_place p l s)
  same_place p q l s eq f = subst (λ n. Finishes c v e (at_place n l s)) (sym eq) f
