use Rattle.std.proofs.Common.{◌≡◌, string_bytes}
use Rattle.std.specs.List.{flat_map}
use Rattle.written_numbers.specs.Characters.{number_character}
use Rattle.written_numbers.proofs.numbers.in_ascii.Given as goal

-- the text has what is written for the characters that were yielded
abbrev pub invariant-loop-character : goal.invariant-loop-character
invariant-loop-character l = string_bytes l.ascii ≡ flat_map number_character l.yielded
