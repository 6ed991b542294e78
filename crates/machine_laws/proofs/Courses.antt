-- Each run has one course, and the function that computes it finds it.
use Rattle.std.proofs.Common.{◌≡◌, ℕ, zero, suc, ◌+◌, ◌-◌, ◌<◌, Option, Some, None, refl, subst, arith, add-one, ⊎_elim}
use Rattle.std.specs.Prelude.{◌↔◌}
use Rattle.std.proofs.lemmas.Bool.{cases_order}
use Rattle.environment_model.specs.Environment.{Environment}
use Rattle.code_model.specs.Code.{Code}
use Rattle.machine_model.specs.States.{Frame, End, Link, NoLink, State, Running, Ended, start}
use Rattle.machine_model.specs.Step.{StepsTo}
use Rattle.machine_model.specs.Runs.{After, Outcome, EndsWith, HasOutcome}
use Rattle.machine_model.specs.Next.{next_state, step_limit, outcome_at, Course, on_from, course_from, course_of, outcome_of}
use Rattle.machine_model.proofs.Decides.{after_one, StepsTo-next_state, next_state-StepsTo}
use Rattle.machine_laws.proofs.Limit.{within_limit}

module _ (c : Code) (v : Environment) where
  pub after_suc : (k : ℕ) (old new : State) → After c v k old → StepsTo c v old new → After c v (suc k) new
  unfolding After
  after_suc k old new h st = (old, h, st)

  -- one more step
  pub after_more : (k : ℕ) (old new : State) → After c v k old → StepsTo c v old new → After c v (k + 1) new
  after_more k old new h st = rw add-one (after_suc k old new h st)

  -- a state that was passed had a step
  passed : (j k : ℕ) (x : State) → After c v (suc (j + k)) x → (s : State) × (new : State) × After c v k s × StepsTo c v s new
  unfolding After
  passed zero k x h = let e : 0 + k ≡ k = omega arith in (h.0, x, subst (λ n. After c v n h.0) e h.1, h.2)
  passed (suc j) k x h = let e : suc j + k ≡ suc (j + k) = omega arith in passed j k h.0 (subst (λ n. After c v n h.0) e h.1)

  -- so a state without a next step is the last
  no_later : (k m : ℕ) (s x : State) → ((new : State) → StepsTo c v s new → ⊥) → k < m → After c v k s → After c v m x → ⊥
  no_later k m s x ended lt h g =
      let e : m ≡ suc ((m - suc k) + k) = omega arith in
      let p = passed (m - suc k) k x (subst (λ n. After c v n x) e g) in
      ended p.1 (subst (λ y. StepsTo c v y p.1) (after_one c v k p.0 s p.2 h) p.3)

  -- two states without a next step are the same, after the same number of steps
  last_once : (k m : ℕ) (s x : State) → ((new : State) → StepsTo c v s new → ⊥) → ((new : State) → StepsTo c v x new → ⊥) → After c v k s → After c v m x
      → k ≡ m
  last_once k m s x es ex h g =
      ⊎_elim (λ e. e) (λ o. ⊎_elim (λ lt. absurd (no_later k m s x es lt h g)) (λ lt. absurd (no_later m k x s ex lt g h)) o) (cases_order k m)

  -- a run ends once
  pub ends_once : (k m : ℕ) (a b : End) → After c v k (Ended a) → After c v m (Ended b) → k ≡ m
  ends_once k m a b h g = last_once k m (Ended a) (Ended b) (λ new st. st) (λ new st. st) h g

  -- a running state comes before the end
  pub running_before : (k m : ℕ) (s : Frame) (b : End) → After c v k (Running s) → After c v m (Ended b) → k < m
  running_before k m s b h g = grind (arith, no_later, after_one)

  -- ---- courses

  ends_with : (k : ℕ) (s : State) → After c v k s → ((new : State) → StepsTo c v s new → ⊥) → EndsWith c v k (outcome_at s)
  ends_with k (Ended (Link t)) h f = h
  ends_with k (Ended NoLink) h f = h
  ends_with k (Running s) h f = (s, h, refl, f)

  -- a run has one course
  pub one_course : (k m : ℕ) (o p : Outcome) → EndsWith c v k o → EndsWith c v m p → (k ≡ m) × (o ≡ p)
  one_course k m o p h g = grind (arith, last_once, after_one)

  found : (n k : ℕ) (s : State) → n + k ≡ step_limit c v → After c v k s → EndsWith c v (course_from c v n k s).steps (course_from c v n k s).outcome
  unfolding course_from
  found zero k s e h = ends_with k s h (λ new st. let le = within_limit c v (k + 1) new (after_more k s new h st) in absurd (omega (arith, le, e)))
  found (suc n) k s e h = by_next (λ new a. found n (suc k) new (omega (arith, e)) a) (next_state c v s) refl
    where
      by_next : ((new : State) → After c v (suc k) new → EndsWith c v (course_from c v n (suc k) new).steps (course_from c v n (suc k) new).outcome)
          → (o : Option State) → next_state c v s ≡ o
          → (λ (x : Course). EndsWith c v x.steps x.outcome) (on_from o (course_from c v n (suc k)) (record { outcome = outcome_at s; steps = k }))
      by_next go None q = ends_with k s h (λ new st. let f = StepsTo-next_state c v s new st in absurd (cc (q, f)))
      by_next go (Some new) q = go new (after_suc k s new h (next_state-StepsTo c v s new q))

  -- every run ends with an outcome, within the limit
  pub course_found : EndsWith c v (course_of c v).steps (course_of c v).outcome
  unfolding After
  course_found = found (step_limit c v) 0 (Running start) (omega arith) refl

  -- a run has exactly the course that is computed
  pub course_decided : (k : ℕ) (o : Outcome) → EndsWith c v k o ↔ (course_of c v ≡ record { outcome = o; steps = k })
  course_decided k o = grind (arith, one_course, course_found)

  pub outcome_decided : (o : Outcome) → HasOutcome c v o ↔ (outcome_of c v ≡ o)
  outcome_decided o = grind (arith, one_course, course_found)
