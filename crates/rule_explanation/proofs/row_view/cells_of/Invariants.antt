-- The cells so far.
use Rattle.std.proofs.Common.{◌≡◌, ◌-◌, ◌≤◌, length, take}
use Rattle.text_model.specs.Texts.{texts_of}
use Rattle.kbart_rows.specs.Lines.{cells_in}
use Rattle.rule_explanation.proofs.row_view.cells_of.Given as goal

abbrev pub invariant-loop-cell : goal.invariant-loop-cell
invariant-loop-cell l = record {
  line : l.cursor.line ≡ l.line;
  within : l.cursor.column ≤ length (cells_in l.line);
  cells : texts_of l.cells.items ≡ take l.cursor.column (cells_in l.line);
}

abbrev pub decreases-loop-cell : goal.decreases-loop-cell
decreases-loop-cell l = length (cells_in l.line) - l.cursor.column
