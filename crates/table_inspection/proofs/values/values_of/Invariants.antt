use Rattle.std.proofs.Common.{[], ◌∷◌, codes}
use Rattle.kbart_rows.specs.Cells.{column_of}
use Rattle.menu.specs.WebLink.{is_web_link}
use Rattle.table_inspection.specs.Cells.{has_no_link, is_date, is_long}
use Rattle.table_inspection.proofs.RowCells.{AreCellsSoFar, AreRowsSoFar}
use Rattle.table_inspection.proofs.values.values_of.Given as goal

-- the rows so far were looked at
abbrev pub invariant-loop-row : goal.invariant-loop-row
invariant-loop-row l = record {
  first_dates : AreCellsSoFar is_date (column_of l.table.header (codes "date_first_issue_online") ∷ []) l.table l.row l.values.first_dates.count
      l.values.first_dates.first l.values.first_dates.text.now;
  last_dates : AreCellsSoFar is_date (column_of l.table.header (codes "date_last_issue_online") ∷ []) l.table l.row l.values.last_dates.count
      l.values.last_dates.first l.values.last_dates.text.now;
  links : AreCellsSoFar is_web_link (column_of l.table.header (codes "title_url") ∷ []) l.table l.row l.values.links.count l.values.links.first
      l.values.links.text.now;
  unlinked : AreRowsSoFar (has_no_link l.table.header) l.table l.row l.values.unlinked.count l.values.unlinked.first;
  long_rows : AreRowsSoFar (is_long l.table.header) l.table l.row l.values.long_rows.count l.values.long_rows.first;
}
