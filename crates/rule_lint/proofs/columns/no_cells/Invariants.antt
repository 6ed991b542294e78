-- A column for each name so far.
use Rattle.std.proofs.Common.{◌≡◌, ◌-◌, ◌≤◌, length, All}
use Rattle.kbart_rows.specs.Lines.{cells_in}
use Rattle.rule_lint.specs.Private.Columns.{no_cells as no_column}
use Rattle.rule_lint.proofs.columns.no_cells.Given as goal

abbrev pub invariant-loop-columns : goal.invariant-loop-columns
invariant-loop-columns l = record {
  line : l.names.line ≡ l.header;
  within : l.names.column ≤ length (cells_in l.header);
  count : length l.columns.items ≡ l.names.column;
  none : All (λ column. column ≡ no_column) l.columns.items;
}

abbrev pub decreases-loop-columns : goal.decreases-loop-columns
decreases-loop-columns l = length (cells_in l.header) - l.names.column
