use Rattle.std.proofs.Common.{◌≡◌, drop}
use Rattle.std.specs.Prelude.{◌==◌}
use Rattle.std.specs.List.{list_any}
use Rattle.query_repair.proofs.joining.has_equals_sign.Given as goal

abbrev pub invariant-loop-byte : goal.invariant-loop-byte
invariant-loop-byte l = list_any (λ b. b == 0x3d) (drop l.byte-index l.piece) ≡ list_any (λ b. b == 0x3d) l.piece
