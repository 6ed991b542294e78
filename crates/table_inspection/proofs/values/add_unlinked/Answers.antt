use Rattle.std.proofs.Common.{codes, is_some, not, sym, ap, ◌∙◌, arith}
use Rattle.std.proofs.lemmas.Grind.{common_steps}
use Rattle.kbart_rows.specs.Cells.{column_of}
use Rattle.table_inspection.specs.Cells.{unlinked, has_no_link, of_rows, row_faults}
use Rattle.table_inspection.specs.Findings.{RowsWithoutLink}
use Rattle.table_inspection.proofs.AddingLemmas.{adds_if_false}
use Rattle.table_inspection.proofs.values.add_unlinked.Goals as goal

pub returns-then-is_none : goal.returns-then-is_none
unfolding unlinked
returns-then-is_none c =
    let table = c.args.table.now in
    let no = ap is_some (sym c.column.ensures.first) ∙ c.is_none.ensures ∙ ap not c.if-is_none.true in
    adds_if_false (is_some (column_of table.header (codes "title_url"))) (of_rows RowsWithoutLink (row_faults (has_no_link table.header) table)) _ no

pub returns : goal.returns
unfolding unlinked
returns c = grind (arith, common_steps)
