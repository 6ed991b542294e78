-- Which keys of a request a target reads.
use Rattle.std.specs.Prelude.{◌≡◌, ◌≤◌, List, All}
use Rattle.environment_model.specs.Environment.{Environment, text_of, members_of}
use Rattle.code_model.specs.Code.{Code}
use Rattle.kev_read.specs.Pairs.{KeyValue, all_of}
use Rattle.verified_runs.specs.declared.run.TheConstants.{MAX_LINK_BYTES}
use Rattle.verified_runs.specs.Fates.{most_bytes_in}
use Rattle.registry.specs.Targets.{TargetValue}
use Rattle.registry.specs.RowEnvironments.{row_environment}
use Rattle.registry.specs.Entries.{matching_rows_of}

-- the two requests have the same values under each name of the code, in the same order
abbrev pub HaveSameValues : Code → List KeyValue → List KeyValue → Type 0
HaveSameValues code pairs others = All (λ name. all_of pairs name.text ≡ all_of others name.text) code.names

-- on each row that matches, the code cannot print too many bytes
abbrev pub IsWithinBudget : TargetValue → List KeyValue → Type 0
IsWithinBudget target pairs = All (λ row. most_bytes_in target.code (row_environment target pairs row) ≤ MAX_LINK_BYTES) (matching_rows_of target pairs)

-- in both environments each name of the code denotes the same text and the same members
abbrev pub DenoteTheSame : Code → Environment → Environment → Type 0
DenoteTheSame code env other =
    All (λ name. (text_of env name.text ≡ text_of other name.text) × (members_of env name.text ≡ members_of other name.text)) code.names
