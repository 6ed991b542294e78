use Rattle.std.proofs.Common.{◌≡◌, ◌+◌, drop}
use Rattle.query_repair.specs.Pieces.{base_length}
use Rattle.query_repair.proofs.pieces.base_len.Given as goal

abbrev pub invariant-loop-at : goal.invariant-loop-at
invariant-loop-at l = l.at + base_length (drop l.at l.part) ≡ base_length l.part
