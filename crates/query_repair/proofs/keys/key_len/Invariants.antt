use Rattle.std.proofs.Common.{◌≡◌, ◌+◌, drop}
use Rattle.query_repair.specs.Keys.{key_length}
use Rattle.query_repair.proofs.keys.key_len.Given as goal

abbrev pub invariant-loop-at : goal.invariant-loop-at
invariant-loop-at l = l.at + key_length (drop l.at l.piece) ≡ key_length l.piece
