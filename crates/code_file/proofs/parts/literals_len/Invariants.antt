use Rattle.std.proofs.Common.{◌≡◌, length, take}
use Rattle.std.specs.Prelude.{min}
use Rattle.std.specs.List.{flat_map}
use Rattle.code_file.specs.Grammar.{literal_field}
use Rattle.code_file.proofs.parts.literals_len.Given as goal

abbrev pub invariant-loop-literal : goal.invariant-loop-literal
invariant-loop-literal l = l.total ≡ min (length (flat_map literal_field (take l.literal-index l.literals))) 18446744073709551615
