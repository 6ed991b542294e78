use Rattle.std.proofs.Common.{◌≡◌, ◌+◌, length}
use Rattle.kbart_rows.specs.Identifiers.{matching_rows}
use Rattle.table_inspection.proofs.tally.rows_of.Given as goal

-- that many rows were passed, and the others are still to come
abbrev pub invariant-loop-count : goal.invariant-loop-count
invariant-loop-count l = l.count + length l.matches ≡ length (matching_rows l.table l.ids)
