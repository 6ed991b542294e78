-- The columns so far.
use Rattle.std.proofs.Common.{◌≡◌, ◌-◌, ◌≤◌, filter, length, take}
use Rattle.text_model.specs.Texts.{texts_of}
use Rattle.kbart_rows.specs.Lines.{cells_in}
use Rattle.rule_lint.specs.Names.{is_name}
use Rattle.rule_lint.proofs.names.template_columns.Given as goal

abbrev pub invariant-loop-column : goal.invariant-loop-column
invariant-loop-column l = record {
  header : cells_in l.columns.line ≡ l.table.header;
  within : l.columns.column ≤ length l.table.header;
  names : texts_of l.names.items ≡ filter is_name (take l.columns.column l.table.header);
}

abbrev pub decreases-loop-column : goal.decreases-loop-column
decreases-loop-column l = length l.table.header - l.columns.column
