-- Turns of interleaved runs, and what all of them together have done.
use Rattle.std.specs.Prelude.{◌≡◌, ℕ, ◌+◌, ◌==◌, if◌then◌else◌, List, [], ◌∷◌, Option, Some, Bool, true, false, min}
use Rattle.std.specs.List.{sum}
use Rattle.machine_model.specs.States.{State, Ended}
use Rattle.machine_model.specs.Runs.{EndsAfter}
use Rattle.machine_model.specs.Next.{state_after}
use Rattle.verified_runs.specs.RunValue.{RunValue, EndsInTime, all_steps}

-- the run has not ended
abbrev pub continues : Option State → Bool
continues (Some (Ended e)) = false
continues s = true

abbrev pub is_live : RunValue → Bool
is_live r = continues (state_after r.code r.env.entries r.steps)

-- a run moved on by n steps: it is still a run of its code on its environment, with n more steps, or with those of the whole run if these are fewer; the run
-- has an end, which is where its code ends
pub record IsMoved (old : RunValue) (n : ℕ) (new : RunValue) : Type 0 where
  pub code : new.code ≡ old.code
  pub env : new.env ≡ old.env
  pub moved : new.steps ≡ min (old.steps + n) (all_steps old)
  pub in_time : EndsInTime old
  pub steps : (k : ℕ) → EndsAfter old.code old.env.entries k → new.steps ≡ min (old.steps + n) k

-- the steps of each turn of run i, from the turns of all runs
abbrev pub own_turns : ℕ → List (ℕ × ℕ) → List ℕ
own_turns i [] = []
own_turns i (turn ∷ turns) = if turn.0 == i then turn.1 ∷ own_turns i turns else own_turns i turns

-- a run after its own turns: it has moved by their sum; without any it is unchanged
abbrev pub IsPlayed : RunValue → List ℕ → RunValue → Type 0
IsPlayed old [] new = new ≡ old
IsPlayed old (n ∷ ns) new = IsMoved old (n + sum ns) new
