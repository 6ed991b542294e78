-- What the names of a template mean on a row, for a request and for the row alone.
use Rattle.std.proofs.Common.{◌≡◌, ℕ, ◌<◌, true, List, [], length, get_or, Some, if◌then◌else◌, arith}
use Rattle.std.proofs.lemmas.Grind.{common_steps}
use Rattle.text_model.specs.Texts.{Text}
use Rattle.environment_model.specs.Environment.{LookUp, Single, is_there, look_up, text_of}
use Rattle.kev_read.specs.Pairs.{KeyValue}
use Rattle.kev_read.specs.Filling.{filled}
use Rattle.kbart_rows.specs.Cells.{Holdings, NamedCell, Row, cell_of, named_cells}
use Rattle.row_laws.specs.Shadowing.{requested, row_of}
use Rattle.rule_parser.specs.Rules.{RuleSet}
use Rattle.rule_parser.specs.Meaning.{seen}
use Rattle.rule_lint.specs.Host.{is_rows_own}
use Rattle.lint_laws.specs.RowLinks.{environment_of_cells}
use Rattle.lint_laws.proofs.HostStates.{HasByte}

-- ---- what lower crates say

pub record RowLaws : Type 0 where
  -- a cell hides the request's value of its name
  pub shadow : (lists : List Text) (cells : List NamedCell) (pairs : List KeyValue) (name : Text)
      → look_up (filled lists (row_of cells) pairs) name
      ≡ (if is_there (row_of cells) name then look_up (row_of cells) name else look_up (requested lists pairs) name)
  -- a row has the defined cell of a name
  pub cell : (header cells : Row) (name : Text) → text_of (row_of (named_cells header cells)) name ≡ cell_of header cells name

-- ---- the row's own names

-- the name means its cell, which is not empty
pub record MeansCell (table : Holdings) (cells : Row) (look : LookUp) (name : Text) : Type 0 where
  pub text : Text
  pub some : HasByte text
  pub cell : cell_of table.header cells name ≡ Some text
  pub means : look name ≡ Some (Single text)

-- for a request and for the row alone
pub record RowLooks (rules : RuleSet) (table : Holdings) (cells : Row) (look alone : LookUp) : Type 0 where
  pub own : (name : Text) → is_rows_own rules table name ≡ true → MeansCell table cells alone name
  pub same : (name : Text) → is_rows_own rules table name ≡ true → look name ≡ alone name

pub row_looks : RowLaws → (rules : RuleSet) (table : Holdings) (row : ℕ) (pairs : List KeyValue) → row < length table.rows
    → RowLooks rules table (get_or table.rows row []) (seen rules (environment_of_cells rules table (get_or table.rows row []) pairs))
    (seen rules (environment_of_cells rules table (get_or table.rows row []) []))
row_looks laws rules table row pairs within = grind (arith, common_steps)
