use Rattle.std.proofs.Common.{◌*◌, ◌≤◌}
use Rattle.kbart_rows.specs.Identifiers.{identifier_columns}
use Rattle.table_inspection.specs.Cells.{has_no_identifier, is_numbered}
use Rattle.table_inspection.specs.Private.Tallying.{IsTallied}
use Rattle.table_inspection.proofs.RowCells.{AreCellsSoFar, AreRowsSoFar}
use Rattle.table_inspection.proofs.identifiers.identify.Given as goal

-- the rows so far were counted
abbrev pub invariant-loop-row : goal.invariant-loop-row
invariant-loop-row l = record {
  tallied : IsTallied l.table l.row l.tally;
  few : l.tally.identifiers ≤ 2 * l.row;
  unidentified : AreRowsSoFar (has_no_identifier l.table.header) l.table l.row l.unidentified.count l.unidentified.first;
  bad_numbers : AreCellsSoFar is_numbered (identifier_columns l.table.header) l.table l.row l.bad_numbers.count l.bad_numbers.first
      l.bad_numbers.text.now;
}
