use Rattle.std.proofs.Common.{◌≡◌, ◌-◌, ◌≤◌, length}
use Rattle.kbart_rows.specs.Lines.{cells_in}
use Rattle.row_laws.specs.Shadowing.{hidden_bytes_at, hidden_members_at}
use Rattle.row_scope.specs.RowEnvironments.{lists_of}
use Rattle.row_scope.proofs.ColumnSums.{sum_of_first}
use Rattle.row_scope.proofs.hidden.hidden_by_cells.Given as goal

-- what the row hides in the columns so far, which the cursor of its cells is not past
abbrev pub invariant-loop-name : goal.invariant-loop-name
invariant-loop-name l = record {
  names : cells_in l.header.line ≡ l.table.header;
  short : length l.header.line ≤ 65537;
  column : l.header.column ≡ l.column;
  within : l.column ≤ length l.table.header;
  line : l.cells.line ≡ l.line;
  ahead : l.cells.column ≤ l.column;
  bytes : l.sums.0
      ≡ sum_of_first (hidden_bytes_at l.table.header (cells_in l.line) (lists_of l.code) l.request.pairs) (length l.table.header) l.column;
  members : l.sums.1
      ≡ sum_of_first (hidden_members_at l.table.header (cells_in l.line) (lists_of l.code) l.request.pairs) (length l.table.header) l.column;
}

abbrev pub decreases-loop-name : goal.decreases-loop-name
decreases-loop-name l = length l.table.header - l.column
