use Rattle.std.proofs.Common.{◌≡◌, drop}
use Rattle.std.specs.List.{list_any}
use Rattle.text_model.specs.Texts.{texts_of}
use Rattle.uri_text.specs.AnyCase.{begins_in_any_case}
use Rattle.openurl_reading.proofs.sources.begins_with_one.Given as goal

abbrev pub invariant-loop-beginning : goal.invariant-loop-beginning
invariant-loop-beginning l =
    list_any (begins_in_any_case l.text) (texts_of (drop l.beginning-index l.beginnings))
    ≡ list_any (begins_in_any_case l.text) (texts_of l.beginnings)
