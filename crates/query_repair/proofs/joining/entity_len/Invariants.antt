use Rattle.std.proofs.Common.{◌≡◌, ◌+◌, drop}
use Rattle.std.specs.List.{prefix_len}
use Rattle.query_repair.specs.Joining.{is_entity_byte}
use Rattle.query_repair.proofs.joining.entity_len.Given as goal

abbrev pub invariant-loop-at : goal.invariant-loop-at
invariant-loop-at l = l.at + prefix_len is_entity_byte (drop l.at l.piece) ≡ prefix_len is_entity_byte l.piece
