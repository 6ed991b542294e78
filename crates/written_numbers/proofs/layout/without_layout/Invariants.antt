use Rattle.std.proofs.Common.{◌≡◌, string_bytes}
use Rattle.std.specs.List.{flat_map}
use Rattle.written_numbers.specs.Layout.{identifier_character}
use Rattle.written_numbers.proofs.layout.without_layout.Given as goal

-- the text has what is written for the characters that were yielded
abbrev pub invariant-loop-character : goal.invariant-loop-character
invariant-loop-character l = string_bytes l.plain ≡ flat_map identifier_character l.yielded
