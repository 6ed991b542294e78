use Rattle.std.proofs.Common.{◌≡◌, ℕ, ◌<◌, ◌≤◌, length, get_or}
use Rattle.row_scope.specs.RowEnvironments.{names_of}
use Rattle.row_scope.proofs.OverLemmas.{AreBoundSoFar}
use Rattle.row_scope.proofs.target_request.TargetRequest.bind_cells.Given as goal

-- the bindings of the columns so far are done, and no later column is before the cursor
abbrev pub invariant-loop-place : goal.invariant-loop-place
invariant-loop-place l = record {
  line : l.cells.line ≡ l.line;
  ahead : (j : ℕ) → l.place-index ≤ j → j < length l.place-items → l.cells.column ≤ (get_or l.place-items j (record { column = 0; number = 0 })).column;
  one_each : length l.bindings ≡ length (names_of l.self.code);
  bound : AreBoundSoFar l.self l.line l.place-items l.place-index l.bindings;
}
