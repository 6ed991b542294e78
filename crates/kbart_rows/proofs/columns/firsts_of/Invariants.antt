use Rattle.std.proofs.Common.{◌≡◌, ◌-◌, ◌≤◌, length, map}
use Rattle.std.specs.List.{range_with_len}
use Rattle.kbart_rows.specs.Cells.{is_first}
use Rattle.kbart_rows.specs.Lines.{cells_in}
use Rattle.kbart_rows.proofs.columns.firsts_of.Given as goal

-- the columns so far were tested
abbrev pub invariant-loop-name : goal.invariant-loop-name
invariant-loop-name l = record {
  line : l.names.line ≡ l.header;
  within : l.names.column ≤ length (cells_in l.header);
  firsts : l.firsts.items ≡ map (is_first (cells_in l.header)) (range_with_len 0 l.names.column);
}

abbrev pub decreases-loop-name : goal.decreases-loop-name
decreases-loop-name l = length (cells_in l.header) - l.names.column
