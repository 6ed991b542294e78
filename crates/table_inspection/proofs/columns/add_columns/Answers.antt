use Rattle.table_inspection.specs.Columns.{ignored_columns, unknown_columns}
use Rattle.table_inspection.specs.Inspection.{findings_in_columns}
use Rattle.table_inspection.proofs.columns.add_columns.Goals as goal
use Rattle.printed_text.proofs.Adding.{adds_both}

pub returns : goal.returns
unfolding findings_in_columns unknown_columns ignored_columns
returns c =
    adds_both _ _ _ _ _ c.in_ok-add_missing_columns.ensures (adds_both _ _ _ _ _ c.in_ok-add_columns_of.ensures c.in_ok-add_columns_of-2.ensures)
