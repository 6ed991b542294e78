use Rattle.std.proofs.Common.{◌≡◌, ◌-◌, ◌≤◌, length, take}
use Rattle.kbart_rows.specs.Lines.{cells_in}
use Rattle.kbart_rows.specs.NameSets.{with_names}
use Rattle.kbart_rows.proofs.name_set.NameSet.add_cells.Given as goal

-- the names of the columns so far were added
abbrev pub invariant-loop-name : goal.invariant-loop-name
invariant-loop-name l = record {
  header : cells_in l.cells.line ≡ l.table.header;
  within : l.cells.column ≤ length l.table.header;
  added : l.self.names ≡ with_names l.fn.self.names (take l.cells.column l.table.header);
  keys : l.self.keys ≡ l.fn.self.keys;
}

abbrev pub decreases-loop-name : goal.decreases-loop-name
decreases-loop-name l = length l.table.header - l.cells.column
