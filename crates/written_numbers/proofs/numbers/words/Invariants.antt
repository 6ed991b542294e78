use Rattle.std.proofs.Common.{◌≡◌, [], string_bytes}
use Rattle.std.specs.List.{fold}
use Rattle.text_model.specs.Texts.{texts_of}
use Rattle.written_numbers.specs.Numbers as spec
use Rattle.written_numbers.proofs.numbers.words.Given as goal

-- the text has those parts that were yielded, with single spaces
abbrev pub invariant-loop-word : goal.invariant-loop-word
invariant-loop-word l = string_bytes l.words ≡ fold spec.with_word [] (texts_of l.yielded)
