use Rattle.std.proofs.Common.{◌≡◌, take}
use Rattle.kbart_rows.specs.Private.Normal.{normal}
use Rattle.kbart_rows.proofs.identifier.write_normal.Given as goal

-- the bytes so far were written
abbrev pub invariant-loop-byte : goal.invariant-loop-byte
invariant-loop-byte l = l.bytes.items ≡ normal (take l.byte-index l.text)
