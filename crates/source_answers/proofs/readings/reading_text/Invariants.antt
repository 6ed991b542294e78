use Rattle.std.proofs.Common.{◌≡◌, take}
use Rattle.std.specs.Prelude.{string_bytes}
use Rattle.std.specs.List.{flat_map}
use Rattle.source_answers.specs.Printed.{pair_line}
use Rattle.source_answers.proofs.readings.reading_text.Given as goal

abbrev pub invariant-loop-index : goal.invariant-loop-index
invariant-loop-index l = string_bytes l.out ≡ flat_map pair_line (take l.index l.reading.pairs)
