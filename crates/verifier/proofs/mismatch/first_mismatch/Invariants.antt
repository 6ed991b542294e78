use Rattle.std.proofs.Common.{◌≡◌, None}
use Rattle.machine_model.specs.First.{first_below}
use Rattle.machine_model.specs.Mismatch.{mismatch_at}
use Rattle.verifier.specs.Private.Rows.{table_of}
use Rattle.verifier.proofs.mismatch.first_mismatch.Given as goal

abbrev pub invariant-loop-place : goal.invariant-loop-place
invariant-loop-place l = first_below (mismatch_at l.layout.code.now (table_of l.table)) l.place ≡ None
