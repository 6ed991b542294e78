use Rattle.std.proofs.Common.{◌≡◌, drop}
use Rattle.std.specs.List.{list_any}
use Rattle.text_model.specs.Texts.{texts_of}
use Rattle.openurl_reading.specs.Sources as spec
use Rattle.openurl_reading.proofs.sources.begins_with_numbered.Given as goal

abbrev pub invariant-loop-word : goal.invariant-loop-word
invariant-loop-word l =
    list_any (spec.is_before_number l.text) (texts_of (drop l.word-index l.words)) ≡ list_any (spec.is_before_number l.text) (texts_of l.words)
