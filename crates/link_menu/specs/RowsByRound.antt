-- Which rows of the targets are tried in which round, and what a watch observes of their runs.
use Rattle.std.specs.Prelude.{ℕ, zero, suc, List, [], ◌∷◌, ◌++◌, Option, Some, None, option_and_then, if◌then◌else◌, length, map, max, nat_lt, slice_get}
use Rattle.std.specs.List.{filter_map}
use Rattle.environment_model.specs.Environment.{Environment}
use Rattle.code_model.specs.Code.{Code}
use Rattle.machine_model.specs.Next.{course_of}
use Rattle.kev_read.specs.Pairs.{KeyValue}
use Rattle.menu.specs.Links.{is_link}
use Rattle.verified_runs.specs.declared.run.TheConstants.{MAX_LINK_BYTES}
use Rattle.registry.specs.Targets.{TargetValue}
use Rattle.registry.specs.RowEnvironments.{row_environment}
use Rattle.verified_runs.specs.Fates.{most_bytes_in}
use Rattle.registry.specs.Entries.{matching_rows_of, resolution_of_row}
use Rattle.interleaved_runs.specs.StepLists.{step_lists_to_end}

-- ---- the rows of one target

-- the rows up to the first that gives a link; all of them if none does
abbrev pub up_to_link : TargetValue → List KeyValue → List ℕ → List ℕ
up_to_link target pairs [] = []
up_to_link target pairs (row ∷ rows) = row ∷ (if is_link (resolution_of_row target pairs row) then [] else up_to_link target pairs rows)

-- the rows that are tried, one in each round from the first round on
abbrev pub tried_rows : TargetValue → List KeyValue → List ℕ
tried_rows target pairs = up_to_link target pairs (matching_rows_of target pairs)

-- the steps of a code in an environment to its end; code that is over budget does not run
abbrev pub steps_in : Code → Environment → Option ℕ
steps_in code env = if nat_lt MAX_LINK_BYTES (most_bytes_in code env) then None else Some (course_of code env).steps

abbrev pub steps_of_row : TargetValue → List KeyValue → ℕ → Option ℕ
steps_of_row target pairs row = steps_in target.code (row_environment target pairs row)

-- ---- all targets, side by side

-- the steps of the runs of round k, counted from 0: one for each target that still has a row to try, unless its code is over budget
abbrev pub ends_in_round : ℕ → List TargetValue → List KeyValue → List ℕ
ends_in_round k targets pairs =
    filter_map (λ target. option_and_then (steps_of_row target pairs) (slice_get (tried_rows target pairs) k)) targets

unfoldable pub longest : List (List ℕ) → ℕ
longest [] = 0
longest (rows ∷ others) = max (length rows) (longest others)

-- there are rounds while a target has a row to try
abbrev pub rounds_of : List TargetValue → List KeyValue → ℕ
rounds_of targets pairs = longest (map (λ target. tried_rows target pairs) targets)

-- what is observed in the first k rounds, one after another
unfoldable pub step_lists_in_rounds : ℕ → List TargetValue → List KeyValue → List (List ℕ)
step_lists_in_rounds zero targets pairs = []
step_lists_in_rounds (suc k) targets pairs = step_lists_in_rounds k targets pairs ++ step_lists_to_end (ends_in_round k targets pairs)

-- what is observed in all rounds
abbrev pub step_lists_in_all_rounds : List TargetValue → List KeyValue → List (List ℕ)
step_lists_in_all_rounds targets pairs = step_lists_in_rounds (rounds_of targets pairs) targets pairs
