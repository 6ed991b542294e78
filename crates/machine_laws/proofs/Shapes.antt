-- How a step changes place, loop and registers: five shapes cover all rules of the machine.
use Rattle.std.proofs.Common.{◌≡◌, ℕ, ◌+◌, ◌<◌, [], ◌∷◌, Some, None, false, refl}
use Rattle.std.specs.Prelude.{◌==◌}
use Rattle.std.proofs.lemmas.Bool.{eq-eqb}
use Rattle.text_model.specs.Texts.{Text}
use Rattle.environment_model.specs.Environment.{Environment}
use Rattle.code_model.specs.Code.{Code}
use Rattle.code_model.specs.declared.code.Instruction.{Instruction}
use Rattle.machine_model.specs.Values.{Text as TextValue, List as ListValue}
use Rattle.machine_model.specs.States.{Loop, Frame, End, put}
use Rattle.machine_model.specs.Step.{Move, Ends, MovesTo, Returns, new_loop, next_turn, Does, halt, fail, jump, text, list, const, number, no_number, undefined}
use Rattle.machine_model.specs.Step.{defined, empty, not_empty, no_member, a_member, equal, different, less, not_less, emit, put_text, cut_text, no_turn, enter}
use Rattle.machine_model.specs.Step.{first_turn, later_turn, next_member, leave, count}
use Rattle.machine_model.specs.Budget.{writes}

-- registers that an instruction does not write stay as they are
abbrev pub KeepsOthers : Instruction → Frame → Frame → Type 0
KeepsOthers i s f = (r : ℕ) → writes r (Some i) ≡ false → f.registers r ≡ s.registers r

-- how a move of an instruction changes the state
pub data Shape (s : Frame) (i : Instruction) : Move → Type 0 where
  ends : (e : End) → Shape s i (Ends e)
  onward : (f : Frame) → f.loop ≡ s.loop → KeepsOthers i s f → Shape s i (MovesTo f)
  enters : (f : Frame) (l : Loop) (b : ℕ) (t : Text) → s.loop ≡ None → s.registers b ≡ ListValue (t ∷ l.left) → f.loop ≡ Some l → l.start ≡ f.place
      → f.place ≡ s.place + 1 → f.place < l.end → f.registers l.element ≡ TextValue t → Shape s i (MovesTo f)
  again : (f : Frame) (l l' : Loop) (t : Text) → s.loop ≡ Some l → f.loop ≡ Some l' → s.place + 1 ≡ l.end → l.left ≡ t ∷ l'.left → l'.start ≡ l.start
      → l'.end ≡ l.end → f.place ≡ l.start → f.registers l'.element ≡ TextValue t → Shape s i (Returns f)
  leaves : (f : Frame) (l : Loop) → s.loop ≡ Some l → f.loop ≡ None → s.place + 1 ≡ l.end → l.left ≡ [] → f.place ≡ l.end → Shape s i (MovesTo f)

put_here : {X : Type 0} (f : ℕ → X) (a : ℕ) (x : X) → put f a x a ≡ x
put_here f a x = rw (eq-eqb a a refl) refl

put_other : {X : Type 0} (f : ℕ → X) (a : ℕ) (x : X) (r : ℕ) → (r == a) ≡ false → put f a x r ≡ f r
put_other f a x r other = rw other refl

pub shape : (c : Code) (v : Environment) (s : Frame) (i : Instruction) (m : Move) → Does c v s i m → Shape s i m
shape c v s _ _ halt = ends _
shape c v s _ _ fail = ends _
shape c v s _ _ (no_turn a b d e lt h) = onward _ refl (λ r other. refl)
shape c v s _ _ (enter a b d t ts e lt h) = enters _ (new_loop s.place a d ts) b t e h refl refl refl lt (put_here s.registers a (TextValue t))
shape c v s _ _ (next_member l t ts e p h) = again _ l (next_turn l ts) t e refl p h refl refl refl (put_here s.registers l.element (TextValue t))
shape c v s _ _ (leave l e p h) = leaves _ l e refl p h p
shape c v s _ _ (jump d) = onward _ refl (λ r other. refl)
shape c v s _ _ (text a b) = onward _ refl (put_other s.registers a _)
shape c v s _ _ (list a b) = onward _ refl (put_other s.registers a _)
shape c v s _ _ (const a b) = onward _ refl (put_other s.registers a _)
shape c v s _ _ (number a b d n t h e) = onward _ refl (put_other s.registers a _)
shape c v s _ _ (no_number a b d t h e) = onward _ refl (λ r other. refl)
shape c v s _ _ (undefined a d h) = onward _ refl (λ r other. refl)
shape c v s _ _ (defined a d t h) = onward _ refl (λ r other. refl)
shape c v s _ _ (empty a d h) = onward _ refl (λ r other. refl)
shape c v s _ _ (not_empty a d b t h) = onward _ refl (λ r other. refl)
shape c v s _ _ (no_member a d h) = onward _ refl (λ r other. refl)
shape c v s _ _ (a_member a d t ts h) = onward _ refl (λ r other. refl)
shape c v s _ _ (equal a b d t h k) = onward _ refl (λ r other. refl)
shape c v s _ _ (different a b d t u h k ne) = onward _ refl (λ r other. refl)
shape c v s _ _ (less a b d m n h k lt) = onward _ refl (λ r other. refl)
shape c v s _ _ (not_less a b d m n h k le) = onward _ refl (λ r other. refl)
shape c v s _ _ (emit b) = onward _ refl (λ r other. refl)
shape c v s _ _ (put_text a m t h) = onward _ refl (λ r other. refl)
shape c v s _ _ (cut_text a n m t h) = onward _ refl (λ r other. refl)
shape c v s _ _ (first_turn b l e h) = onward _ refl (λ r other. refl)
shape c v s _ _ (later_turn b l e h) = onward _ refl (λ r other. refl)
shape c v s _ _ (count a b ts h) = onward _ refl (put_other s.registers a _)
