use Rattle.std.proofs.Common.{◌≡◌, length}
use Rattle.query_repair.specs.Pieces.{after_marks}
use Rattle.query_repair.proofs.pieces.unmarked.Given as goal

abbrev pub invariant-loop-rest : goal.invariant-loop-rest
invariant-loop-rest l = after_marks (length l.rest) l.rest ≡ after_marks (length l.part) l.part

abbrev pub decreases-loop-rest : goal.decreases-loop-rest
decreases-loop-rest l = length l.rest
