use Rattle.std.proofs.Common.{◌≡◌, ℕ, [], codes, length, get_or, ap, ◌∙◌, arith}
use Rattle.std.proofs.lemmas.Grind.{common_steps}
use Rattle.std.proofs.Common.{drop, not}
use Rattle.std.proofs.Common.{Bool, Bor, Option, None, Some, true, false, refl, sym}
use Rattle.std.proofs.lemmas.Bool.{false≢true}
use Rattle.std.specs.Prelude.{is_none, is_some}
use Rattle.std.specs.Option.{option_copied}
use Rattle.kbart_rows.specs.Lines.{cells_in}
use Rattle.text_model.specs.Texts.{Text}
use Rattle.kbart_rows.specs.Cells.{cell_in, column_of, Row}
use Rattle.menu.specs.WebLink.{is_web_link}
use Rattle.table_inspection.specs.Cells.{cell_faults, has_no_link, is_date, is_long, row_faults}
use Rattle.table_inspection.proofs.CellLemmas.{any_text}
use Rattle.table_inspection.proofs.RowCells.{cells_step, rows_step}
use Rattle.table_inspection.proofs.values.values_of.Goals as goal

pub loop-row-init : goal.loop-row-init
loop-row-init c = grind (arith, common_steps)

undefined : (cell : Option (Bor Text)) (is : Bool) → is_some cell ≡ not is → is ≡ is_none (option_copied cell)
undefined None true some = refl
undefined None false some = absurd (false≢true some)
undefined (Some cell) true some = absurd (false≢true (sym some))
undefined (Some cell) false some = refl

pub loop-row-preserved : goal.loop-row-preserved
loop-row-preserved c =
    let inv = c.loop-row.invariant in
    let table = c.args.table.now in
    let row = c.loop-row.row in
    let cells = get_or table.rows row [] in
    let link = c.cell_in-link.ensures ∙ ap (λ (cells : Row). cell_in cells c.column-link_column.result) c.line-line.ensures.cells
    ∙ ap (cell_in cells) c.column-link_column.ensures.first in
    let first = c.cell_in.ensures ∙ ap (λ (cells : Row). cell_in cells c.column-first_column.result) c.line-line.ensures.cells
    ∙ ap (cell_in cells) c.column-first_column.ensures.first in
    let last = c.cell_in-in-loop-row.ensures ∙ ap (λ (cells : Row). cell_in cells c.column-last_column.result) c.line-line.ensures.cells
    ∙ ap (cell_in cells) c.column-last_column.ensures.first in
    let unlinked = undefined c.cell_in-link.result c.is_none.result c.is_none.ensures ∙ ap is_none link in
    let long = c.is_longer.ensures ∙ ap (λ (width : ℕ). any_text (drop width (cells_in c.line-line.result.now)))
    (c.cell_count-width.ensures ∙ ap length c.header.ensures.cells) ∙ ap (is_long table.header) c.line-line.ensures.cells in
    record {
      first_dates = cells_step is_date (column_of table.header (codes "date_first_issue_online")) table row _ _ _ _ _ _ _ first
          record { added = c.add_cell.ensures.added; small = c.add_cell.ensures.small } inv.first_dates;
      last_dates = cells_step is_date (column_of table.header (codes "date_last_issue_online")) table row _ _ _ _ _ _ _ last
          record { added = c.add_cell-in-loop-row.ensures.added; small = c.add_cell-in-loop-row.ensures.small } inv.last_dates;
      links = cells_step is_web_link (column_of table.header (codes "title_url")) table row _ _ _ _ _ _ _ link
          record { added = c.add_cell-in-loop-row-2.ensures.added; small = c.add_cell-in-loop-row-2.ensures.small } inv.links;
      unlinked = rows_step (has_no_link table.header) table row _ _ _ _ c.is_none.result unlinked c.add_if.ensures.count c.add_if.ensures.first inv.unlinked;
      long_rows = rows_step (is_long table.header) table row _ _ _ _ c.is_longer.result long c.add_if-in-loop-row.ensures.count
          c.add_if-in-loop-row.ensures.first inv.long_rows;
    }

pub returns : goal.returns
unfolding cell_faults row_faults
returns c =
    let inv = c.loop-row.invariant in
    let end : c.loop-row.row ≡ length c.args.table.now.rows = omega (arith, c.rows-row-end.ensures.count, c.loop-row-test.false, c.loop-row.auto.row-end) in
    record {
      first_dates = rw (← end) inv.first_dates.gathered;
      last_dates = rw (← end) inv.last_dates.gathered;
      links = rw (← end) inv.links.gathered;
      unlinked = rw (← end) inv.unlinked.gathered;
      long_rows = rw (← end) inv.long_rows.gathered;
    }
