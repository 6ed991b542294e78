use Rattle.std.proofs.Common.{◌≡◌, take}
use Rattle.std.specs.Prelude.{string_bytes}
use Rattle.request_encodings.specs.Texts as spec
use Rattle.request_encodings.proofs.texts.decoded.Given as goal

abbrev pub invariant-loop-byte : goal.invariant-loop-byte
invariant-loop-byte l = string_bytes l.text ≡ spec.decoded l.encoding (take l.byte-index l.bytes)
