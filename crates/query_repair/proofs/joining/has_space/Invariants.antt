use Rattle.std.proofs.Common.{◌≡◌, drop}
use Rattle.std.specs.Prelude.{◌==◌, ◌||◌}
use Rattle.std.specs.List.{list_any}
use Rattle.query_repair.proofs.joining.has_space.Given as goal

abbrev pub invariant-loop-byte : goal.invariant-loop-byte
invariant-loop-byte l = list_any (λ b. b == 0x2b || b == 0x25) (drop l.byte-index l.piece) ≡ list_any (λ b. b == 0x2b || b == 0x25) l.piece
