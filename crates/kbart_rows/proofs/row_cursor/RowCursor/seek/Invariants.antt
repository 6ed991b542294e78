use Rattle.std.proofs.Common.{◌≡◌, ◌-◌, ◌≤◌}
use Rattle.kbart_rows.proofs.row_cursor.RowCursor.seek.Given as goal

-- the line is unchanged, and the cursor is not past the wanted column
abbrev pub invariant-loop-self : goal.invariant-loop-self
invariant-loop-self l = record {
  line : l.self.line ≡ l.fn.self.line;
  ahead : l.self.column ≤ l.column;
}

abbrev pub decreases-loop-self : goal.decreases-loop-self
decreases-loop-self l = l.column - l.self.column
