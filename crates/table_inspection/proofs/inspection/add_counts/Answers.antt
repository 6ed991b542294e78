use Rattle.std.proofs.Common.{[], ◌∷◌, length}
use Rattle.printed_text.proofs.Adding.{adds_both}
use Rattle.kbart_rows.specs.Identifiers.{identifier_columns}
use Rattle.table_inspection.specs.Findings.{RowCount, IdentifierCount}
use Rattle.table_inspection.specs.Identifiers.{identifiers_of, distinct}
use Rattle.table_inspection.specs.Inspection.{totals}
use Rattle.table_inspection.proofs.AddingLemmas.{adds_one}
use Rattle.table_inspection.proofs.inspection.add_counts.Goals as goal

pub returns : goal.returns
unfolding totals
returns c =
    let table = c.args.table.now in
    let rows = rw c.rows-rows.ensures.count at c.in_ok-add_count.ensures in
    let identifiers = rw c.requires at c.in_ok-add_count-2.ensures in
    adds_both _ _ _ (RowCount (length table.rows) ∷ []) _ (adds_one _ _ (RowCount (length table.rows)) rows)
    (adds_one _ _ (IdentifierCount (length (distinct (identifiers_of (identifier_columns table.header) table.rows)))) identifiers)
