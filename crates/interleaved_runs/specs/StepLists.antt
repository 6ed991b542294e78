-- What a watch observes of interleaved runs.
use Rattle.std.specs.Prelude.{◌≡◌, ℕ, zero, suc, ◌+◌, ◌-◌, ◌*◌, ◌/◌, List, [], ◌∷◌, ◌++◌, Option, option_map, map, max, min}
use Rattle.code_model.specs.Code.{Code}
use Rattle.machine_model.specs.Next.{course_of}
use Rattle.target_vars.specs.EnvValue.{EnvValue}
use Rattle.verified_runs.specs.RunValue.{RunValue}
use Rattle.interleaved_runs.specs.Fates.{runs_of}
use Rattle.interleaved_runs.specs.declared.rounds.TheConstants.{TURN}

abbrev pub steps_of : List RunValue → List ℕ
steps_of runs = map (λ run. run.steps) runs

-- the lists observed so far, if they are known, and one more
abbrev pub with_list : Option (List (List ℕ)) → List ℕ → Option (List (List ℕ))
with_list told list = option_map (λ lists. lists ++ list ∷ []) told

-- the lists observed so far, if they are known, and these
abbrev pub with_lists : Option (List (List ℕ)) → List (List ℕ) → Option (List (List ℕ))
with_lists told more = option_map (λ lists. lists ++ more) told

-- ---- runs by their steps

-- the steps of a run to its end
abbrev pub end_of : RunValue → ℕ
end_of run = (course_of run.code run.env.entries).steps

abbrev pub ends_of : List RunValue → List ℕ
ends_of runs = map end_of runs

-- the steps of runs that have that many steps in all, after n steps or at their ends
abbrev pub steps_after : ℕ → List ℕ → List ℕ
steps_after n ends = map (λ end. min n end) ends

-- what is observed of them in the first t turns
unfoldable pub step_lists_in : ℕ → List ℕ → List (List ℕ)
step_lists_in zero ends = []
step_lists_in (suc t) ends = step_lists_in t ends ++ steps_after (TURN * suc t) ends ∷ []

-- how many turns a run of that many steps needs
abbrev pub turns_left : ℕ → ℕ
turns_left steps = (steps + (TURN - 1)) / TURN

unfoldable pub turns_to_end : List ℕ → ℕ
turns_to_end [] = 0
turns_to_end (end ∷ ends) = max (turns_left end) (turns_to_end ends)

-- what is observed of them until each has ended
abbrev pub step_lists_to_end : List ℕ → List (List ℕ)
step_lists_to_end ends = step_lists_in (turns_to_end ends) ends

-- what is observed of codes on environments
abbrev pub step_lists_of : List (Code × EnvValue) → List (List ℕ)
step_lists_of pairs = step_lists_to_end (ends_of (runs_of pairs))

-- ---- what is known about a watch

-- the watch has observed all of these lists, after the earlier ones
abbrev pub HasSeenAll : List (List ℕ) → Option (List (List ℕ)) → Option (List (List ℕ)) → Type 0
HasSeenAll lists told new = new ≡ with_lists told lists

-- the watch has observed the first of these lists, after the earlier ones
abbrev pub HasSeenSome : List (List ℕ) → Option (List (List ℕ)) → Option (List (List ℕ)) → Type 0
HasSeenSome lists told new =
    (some : List (List ℕ)) × (rest : List (List ℕ)) × (lists ≡ some ++ rest) × (new ≡ with_lists told some)
