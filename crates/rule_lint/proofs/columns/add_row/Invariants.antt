-- The columns so far have their cells, and the others are unchanged.
use Rattle.std.proofs.Common.{◌≡◌, ◌≤◌, ◌<◌, ℕ, [], get_or}
use Rattle.kbart_rows.specs.Lines.{cells_in}
use Rattle.rule_lint.specs.declared.columns.Column.{Column}
use Rattle.rule_lint.specs.Private.Columns.{with_cell}
use Rattle.rule_lint.proofs.columns.add_row.Given as goal

abbrev pub invariant-loop-k : goal.invariant-loop-k
invariant-loop-k l = record {
  line : l.cells.line ≡ l.line;
  column : l.cells.column ≡ l.k;
  added : (j : ℕ) (d : Column) → j < l.k → get_or l.columns j d ≡ with_cell (get_or l.initial.columns j d) l.row (get_or (cells_in l.line) j []);
  kept : (j : ℕ) (d : Column) → l.k ≤ j → get_or l.columns j d ≡ get_or l.initial.columns j d;
}
