use Rattle.std.proofs.Common.{◌≡◌, length, take}
use Rattle.std.specs.Prelude.{min}
use Rattle.std.specs.List.{flat_map}
use Rattle.code_file.specs.Grammar.{name_field}
use Rattle.code_file.proofs.parts.names_len.Given as goal

abbrev pub invariant-loop-name : goal.invariant-loop-name
invariant-loop-name l = l.total ≡ min (length (flat_map name_field (take l.name-index l.names))) 18446744073709551615
