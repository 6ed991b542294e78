-- The environment of a row of a target and a request.
use Rattle.std.specs.Prelude.{ℕ, List}
use Rattle.environment_model.specs.Environment.{Environment}
use Rattle.kev_read.specs.Pairs.{KeyValue}
use Rattle.row_scope.specs.RowEnvironments.{environment_of_row}
use Rattle.registry.specs.Targets.{TargetValue}

-- the defined cells of a row, in the order of the columns, and after them the pairs of the request: the first entry of a
-- name stays, so no pair replaces a cell
abbrev pub row_environment : TargetValue → List KeyValue → ℕ → Environment
row_environment target pairs row = environment_of_row target.code target.table pairs row
