use Rattle.std.proofs.Common.{◌≡◌, [], map, string_bytes}
use Rattle.std.specs.List.{fold}
use Rattle.text_model.specs.Texts.{texts_of}
use Rattle.written_numbers.specs.Numbers as spec
use Rattle.written_numbers.proofs.numbers.joined_lines.Given as goal

-- the text has the lines that were yielded, joined
abbrev pub invariant-loop-line : goal.invariant-loop-line
invariant-loop-line l = string_bytes l.joined ≡ fold spec.with_line [] (map spec.words (texts_of l.yielded))
