use Rattle.std.proofs.Common.{◌≡◌, ◌++◌, length, string_bytes}
use Rattle.text_model.specs.Texts.{texts_of}
use Rattle.written_numbers.specs.Identifiers as spec
use Rattle.written_numbers.proofs.identifiers.push_continued.Given as goal

-- what has been written, with what is still to write, is the whole
abbrev pub invariant-loop-rest : goal.invariant-loop-rest
invariant-loop-rest l =
    string_bytes l.text ++ spec.continued (texts_of l.rest) ≡ string_bytes l.fn.text ++ spec.continued (texts_of l.lines)

abbrev pub decreases-loop-rest : goal.decreases-loop-rest
decreases-loop-rest l = length l.rest
