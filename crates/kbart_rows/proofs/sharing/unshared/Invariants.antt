use Rattle.std.proofs.Common.{◌≡◌, length}
use Rattle.kbart_rows.specs.Private.Groups.{AreFresh}
use Rattle.kbart_rows.proofs.sharing.unshared.Given as goal

abbrev pub invariant-loop-row : goal.invariant-loop-row
invariant-loop-row l = record {
  count : length l.notes.items ≡ l.row;
  fresh : AreFresh l.notes.items;
}
