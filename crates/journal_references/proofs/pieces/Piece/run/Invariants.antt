use Rattle.std.proofs.Common.{◌≡◌, ◌+◌, drop}
use Rattle.std.specs.List.{prefix_len}
use Rattle.journal_references.specs.Pieces.{is_byte}
use Rattle.journal_references.proofs.pieces.Piece.run.Given as goal

abbrev pub invariant-loop-at : goal.invariant-loop-at
invariant-loop-at l = l.at + prefix_len (is_byte l.self) (drop l.at l.text) ≡ prefix_len (is_byte l.self) l.text
