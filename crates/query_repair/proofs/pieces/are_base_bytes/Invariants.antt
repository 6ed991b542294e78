use Rattle.std.proofs.Common.{◌≡◌, drop}
use Rattle.std.specs.List.{list_all}
use Rattle.query_repair.specs.Pieces.{is_base_byte}
use Rattle.query_repair.proofs.pieces.are_base_bytes.Given as goal

abbrev pub invariant-loop-byte : goal.invariant-loop-byte
invariant-loop-byte l = list_all is_base_byte (drop l.byte-index l.base) ≡ list_all is_base_byte l.base
