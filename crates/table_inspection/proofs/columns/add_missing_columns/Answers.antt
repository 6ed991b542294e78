use Rattle.std.proofs.Common.{[]}
use Rattle.printed_text.proofs.Adding.{adds_both, adds_none}
use Rattle.table_inspection.specs.Columns.{missing_columns}
use Rattle.table_inspection.proofs.columns.add_missing_columns.Goals as goal

pub returns : goal.returns
unfolding missing_columns
returns c = adds_both _ _ _ _ _ c.in_ok-add_if_missing.ensures (adds_both _ _ _ _ [] c.in_ok-add_if_missing-2.ensures (adds_none _))
