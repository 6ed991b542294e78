use Rattle.std.proofs.Common.{◌≡◌, take}
use Rattle.openurl_reading.specs.Counting as spec
use Rattle.openurl_reading.proofs.counting.plain.Given as goal

abbrev pub invariant-loop-byte : goal.invariant-loop-byte
invariant-loop-byte l = l.bytes.items ≡ spec.plain (take l.byte-index l.value)
