-- How much work the runs of one request are.
use Rattle.std.specs.Prelude.{ℕ, zero, suc, ◌*◌, List, [], ◌++◌, length, sum_by}
use Rattle.machine_model.specs.Budget.{sums_of, steps_bound}
use Rattle.kev_read.specs.Pairs.{KeyValue}
use Rattle.registry.specs.Targets.{TargetValue}
use Rattle.registry.specs.Entries.{matching_rows_of}
use Rattle.link_menu.specs.RowsByRound.{ends_in_round, rounds_of}

-- the steps of each run of the first k rounds, and of all rounds
unfoldable pub runs_in_rounds : ℕ → List TargetValue → List KeyValue → List ℕ
runs_in_rounds zero targets pairs = []
runs_in_rounds (suc k) targets pairs = runs_in_rounds k targets pairs ++ ends_in_round k targets pairs

abbrev pub runs_of_request : List TargetValue → List KeyValue → List ℕ
runs_of_request targets pairs = runs_in_rounds (rounds_of targets pairs) targets pairs

-- ---- what an operator can work out

-- S(M), as `verify` prints it, for as many members as the request has pairs
abbrev pub most_steps_of_run : List KeyValue → TargetValue → ℕ
most_steps_of_run pairs target = steps_bound (sums_of target.code) (length pairs)

-- that many for each matching row
abbrev pub most_steps_of_target : List KeyValue → TargetValue → ℕ
most_steps_of_target pairs target = length (matching_rows_of target pairs) * most_steps_of_run pairs target

abbrev pub most_steps_of_request : List TargetValue → List KeyValue → ℕ
most_steps_of_request targets pairs = sum_by (most_steps_of_target pairs) targets
