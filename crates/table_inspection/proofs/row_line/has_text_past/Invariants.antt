use Rattle.std.proofs.Common.{◌≡◌, ◌≤◌, ◌-◌, drop, length, not}
use Rattle.std.specs.List.{list_any}
use Rattle.kbart_rows.specs.Lines.{cells_in}
use Rattle.table_inspection.specs.Columns.{is_empty_text}
use Rattle.table_inspection.proofs.row_line.has_text_past.Given as goal

-- the result depends only on the cells that are left
abbrev pub invariant-loop-cell : goal.invariant-loop-cell
invariant-loop-cell l = record {
  line : l.cells.line ≡ l.line;
  within : l.cells.column ≤ length (cells_in l.line);
  same : list_any (λ cell. not (is_empty_text cell)) (drop l.fn.width (cells_in l.line))
      ≡ list_any (λ cell. not (is_empty_text cell)) (drop l.left (drop l.cells.column (cells_in l.line)));
}

abbrev pub decreases-loop-cell : goal.decreases-loop-cell
decreases-loop-cell l = length (cells_in l.line) - l.cells.column
