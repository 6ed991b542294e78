-- From steps to outcomes, by the laws of the machine.
use Rattle.std.proofs.Common.{◌≡◌, ℕ, ◌+◌, ◌≤◌, Some, None, refl, sym, ap, ◌∙◌, arith, add-one}
use Rattle.std.specs.Prelude.{◌↔◌}
use Rattle.code_model.specs.Code.{Code}
use Rattle.environment_model.specs.Environment.{Environment}
use Rattle.machine_model.specs.States.{Frame, State, Running, Ended, start}
use Rattle.machine_model.specs.States as end
use Rattle.machine_model.specs.Step.{StepsTo}
use Rattle.machine_model.specs.Runs.{After, EndsWith, Outcome, HasOutcome, Link, NoLink, Stuck}
use Rattle.machine_model.specs.Next.{next_state, Course, course, course_of, step_limit}
use Rattle.checked_machine.specs.Outcomes.{IsOutcome}

-- the law that the next state is computed
abbrev pub StepIsDecided : Type 0
StepIsDecided = (c : Code) (v : Environment) (s new : State) → StepsTo c v s new ↔ (next_state c v s ≡ Some new)

pub at_start : (c : Code) (v : Environment) → After c v 0 (Running start)
unfolding After
at_start c v = refl

pub one_more : StepIsDecided → (c : Code) (v : Environment) (k : ℕ) (s : Frame) (new : State) → After c v k (Running s) → next_state c v (Running s) ≡ Some new
    → After c v (k + 1) new
unfolding After
one_more decided c v k s new h e = rw add-one ((Running s, h, (decided c v (Running s) new).1 e))

pub ends_with_link : StepIsDecided → (c : Code) (v : Environment) (k : ℕ) (s : Frame) → After c v k (Running s) → (text : _)
    → next_state c v (Running s) ≡ Some (Ended (end.Link text)) → HasOutcome c v (Link text)
ends_with_link decided c v k s h text e = (k + 1, one_more decided c v k s (Ended (end.Link text)) h e)

pub ends_with_no_link : StepIsDecided → (c : Code) (v : Environment) (k : ℕ) (s : Frame) → After c v k (Running s)
    → next_state c v (Running s) ≡ Some (Ended end.NoLink) → HasOutcome c v NoLink
ends_with_no_link decided c v k s h e = (k + 1, one_more decided c v k s (Ended end.NoLink) h e)

pub gets_stuck : StepIsDecided → (c : Code) (v : Environment) (k : ℕ) (s : Frame) → After c v k (Running s) → next_state c v (Running s) ≡ None
    → HasOutcome c v (Stuck s.place)
gets_stuck decided c v k s h e =
    (k, (s, h, refl, λ new step. let z : None ≡ Some new = sym e ∙ (decided c v (Running s) new).0 step in absurd (cc)))

-- after the maximum number of steps
pub is_stuck_last : StepIsDecided → (c : Code) (v : Environment) (s : Frame)
    → ((k : ℕ) (t : State) → After c v k t → k ≤ step_limit c v) → After c v (step_limit c v) (Running s) → HasOutcome c v (Stuck s.place)
is_stuck_last decided c v s in_time h = (
  step_limit c v,
  (
    s,
    h,
    refl,
    λ new step. let z : step_limit c v + 1 ≤ step_limit c v = in_time (step_limit c v + 1) new
        (one_more decided c v (step_limit c v) s new h ((decided c v (Running s) new).0 step)) in absurd (omega arith),
  ),
)

-- the law that what a run ends with is computed
abbrev pub CourseIsDecided : Type 0
CourseIsDecided = (c : Code) (v : Environment) (k : ℕ) (o : Outcome) → EndsWith c v k o ↔ (course_of c v ≡ course k o)

pub the_only : CourseIsDecided → (c : Code) (v : Environment) (o : Outcome) → HasOutcome c v o → IsOutcome c v o
the_only decided c v o h = record {
  has_outcome = h;
  only = λ other g.
      let p : course_of c v ≡ course h.0 o = (decided c v h.0 o).0 h.1 in
      let q : course_of c v ≡ course g.0 other = (decided c v g.0 other).0 g.1 in
      ap (λ (x : Course). x.outcome) (sym q ∙ p);
}
