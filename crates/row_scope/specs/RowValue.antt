-- What callers see of a request and its known names, of a request at a target, and of a row over a request.
use Rattle.std.specs.Prelude.{ℕ, List}
use Rattle.text_model.specs.Texts.{Text}
use Rattle.code_model.specs.Code.{Code}
use Rattle.target_vars.specs.EnvValue.{EnvValue}
use Rattle.kbart_rows.specs.Cells.{Holdings}
use Rattle.row_scope.specs.RowEnvironments.{environment_of_row}
use Rattle.row_scope.specs.Bindings.{laid_over}
use Rattle.row_scope.specs.RequestValues.{RequestValue}

-- a request, and the names that have numbers, by which what is known about them is found
pub record KnownValue : Type 0 where
  pub request : RequestValue
  pub numbered : List Text

-- the code and the table of a target, and the request
pub record TargetRequestValue : Type 0 where
  pub code : Code
  pub table : Holdings
  pub request : RequestValue

-- the environment of a row and a request, and the names that may be looked up by their numbers
pub record RowValue : Type 0 where
  pub env : EnvValue
  pub names : List Text

-- the environment of a row with this line over a request
abbrev pub laid_row : TargetRequestValue → ℕ → Text → EnvValue
laid_row t row line = laid_over t.request.values line (environment_of_row t.code t.table t.request.pairs row)
