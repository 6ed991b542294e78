-- Runs from their starts to their ends.
use Rattle.std.specs.Prelude.{◌≡◌, ℕ, List, map, min}
use Rattle.std.specs.List.{AllByRecursion}
use Rattle.machine_model.specs.Runs.{EndsAfter}
use Rattle.verified_runs.specs.RunValue.{RunValue}
use Rattle.interleaved_runs.specs.StepLists.{end_of}

-- a run at its start, whose code ends
pub record IsFresh (run : RunValue) : Type 0 where
  pub start : run.steps ≡ 0
  pub ends : EndsAfter run.code run.env.entries (end_of run)

abbrev pub AreFresh : List RunValue → Type 0
AreFresh runs = AllByRecursion IsFresh runs

-- the run at its start: the same code on the same environment, without steps
abbrev pub same_but_steps : RunValue → RunValue
same_but_steps run = record run { steps = 0 }

-- runs of the same codes on the same environments, after any number of steps
abbrev pub AreOfTheSame : List RunValue → List RunValue → Type 0
AreOfTheSame old new = map same_but_steps new ≡ map same_but_steps old

-- a run n steps from its start, or at its end
abbrev pub advanced_run : ℕ → RunValue → RunValue
advanced_run n run = record run { steps = min n (end_of run) }
