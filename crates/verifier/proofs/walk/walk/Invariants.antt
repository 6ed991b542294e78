use Rattle.std.proofs.Common.{◌+◌, ◌*◌, ◌-◌, length}
use Rattle.verifier.specs.Private.Rows.{table_of}
use Rattle.verifier.specs.Private.Walks.{table_rises, IsClosedBefore, IsBelowClosed}
use Rattle.verifier.proofs.walk.walk.Given as goal

abbrev pub invariant-loop-place : goal.invariant-loop-place
invariant-loop-place l = record {
  closed : IsClosedBefore l.layout.code.now l.place (table_of l.table);
  below : IsBelowClosed l.layout.code.now (table_of l.table);
}

abbrev pub decreases-loop-place : goal.decreases-loop-place
decreases-loop-place l = table_rises l.table * (length l.table + 1) + (length l.table - l.place)
