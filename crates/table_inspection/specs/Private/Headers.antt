-- What is found in a column, by its kind.
use Rattle.std.specs.Prelude.{ℕ, List}
use Rattle.kbart_rows.specs.Cells.{Row}
use Rattle.table_inspection.specs.Columns.{ignored_column, unknown_column}
use Rattle.table_inspection.specs.Findings.{TableFinding}
use Rattle.table_inspection.specs.declared.columns.ColumnKind.{ColumnKind}
use Rattle.table_inspection.specs.declared.columns.ColumnKind.TheVariants.{Ignored, Unknown}

abbrev pub findings_of : ColumnKind → Row → ℕ → List TableFinding
findings_of Unknown header column = unknown_column header column
findings_of Ignored header column = ignored_column header column
