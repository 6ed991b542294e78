-- Runs that are begun together, and the codes among them that are over budget.
use Rattle.std.specs.Prelude.{◌≡◌, ℕ, List, [], ◌∷◌, Option, Some, None, if◌then◌else◌, map}
use Rattle.code_model.specs.Code.{Code}
use Rattle.machine_model.specs.Runs.{Outcome}
use Rattle.machine_model.specs.Next.{outcome_of}
use Rattle.target_vars.specs.EnvValue.{EnvValue}
use Rattle.verified_runs.specs.RunValue.{RunValue, most_bytes}
use Rattle.verified_runs.specs.Fates.{FateValue, OverBudget, ended}
use Rattle.interleaved_runs.specs.Fates.{is_over_budget, runs_of}
use Rattle.interleaved_runs.specs.Private.Rounds.{AreFresh}

-- the bound on bytes, if it is over budget
abbrev pub excess_of : Code × EnvValue → Option ℕ
excess_of p = if is_over_budget p.0 p.1 then Some (most_bytes p.0 p.1) else None

-- for each code, the bound by which it is over budget on its environment, or its run at the start
pub record IsRunSetOf (pairs : List (Code × EnvValue)) (over_budget : List (Option ℕ)) (initial : List RunValue) : Type 0 where
  pub excesses : over_budget ≡ map excess_of pairs
  pub runs : initial ≡ runs_of pairs
  pub fresh : AreFresh initial

-- what a run ends with
abbrev pub outcome_in_the_end : RunValue → Outcome
outcome_in_the_end run = outcome_of run.code run.env.entries

-- the fates, in order: over budget, or otherwise the next outcome
abbrev pub fates_in : List (Option ℕ) → List Outcome → List FateValue
fates_in [] outcomes = []
fates_in (Some bytes ∷ over_budget) outcomes = OverBudget bytes ∷ fates_in over_budget outcomes
fates_in (None ∷ over_budget) [] = []
fates_in (None ∷ over_budget) (outcome ∷ outcomes) = ended outcome ∷ fates_in over_budget outcomes
