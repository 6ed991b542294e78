use Rattle.std.proofs.Common.{◌≡◌, drop}
use Rattle.std.specs.List.{list_any}
use Rattle.text_model.specs.Texts.{texts_of}
use Rattle.work_identifiers.specs.StandardNumbers as spec
use Rattle.work_identifiers.proofs.numbers.is_after_any.Given as goal

abbrev pub invariant-loop-word : goal.invariant-loop-word
invariant-loop-word l =
    list_any (spec.is_number_after l.number l.text) (texts_of (drop l.word-index l.known))
    ≡ list_any (spec.is_number_after l.number l.text) (texts_of l.known)
