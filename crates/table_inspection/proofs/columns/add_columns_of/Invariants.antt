use Rattle.std.proofs.Common.{◌≡◌, ◌≤◌, ◌-◌, length}
use Rattle.std.specs.List.{flat_map, range_with_len}
use Rattle.kbart_rows.specs.Lines.{cells_in}
use Rattle.table_inspection.specs.Private.Headers.{findings_of}
use Rattle.table_inspection.specs.Private.AddedLines.{Adds}
use Rattle.table_inspection.proofs.columns.add_columns_of.Given as goal

-- the columns so far were examined
abbrev pub invariant-loop-name : goal.invariant-loop-name
invariant-loop-name l = record {
  names : cells_in l.names.line ≡ l.table.header;
  column : l.column ≡ l.names.column;
  within : l.column ≤ length l.table.header;
  few : length l.table.header ≤ 65537;
  added : Adds l.initial.findings l.findings (flat_map (findings_of l.kind l.table.header) (range_with_len 0 l.column));
}

abbrev pub decreases-loop-name : goal.decreases-loop-name
decreases-loop-name l = length l.table.header - l.names.column
