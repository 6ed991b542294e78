use Rattle.std.proofs.Common.{◌≡◌, ◌++◌, take}
use Rattle.std.specs.Prelude.{string_bytes}
use Rattle.std.specs.List.{flat_map}
use Rattle.printed_text.specs.Printed.{byte_text}
use Rattle.printed_text.proofs.quoting.push_bytes.Given as goal

abbrev pub invariant-loop-b : goal.invariant-loop-b
invariant-loop-b l = string_bytes l.out ≡ string_bytes l.initial.out ++ flat_map byte_text (take l.b-index l.bytes)
