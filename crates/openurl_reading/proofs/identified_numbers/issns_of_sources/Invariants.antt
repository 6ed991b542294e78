use Rattle.std.proofs.Common.{◌≡◌, take}
use Rattle.std.specs.List.{flat_map}
use Rattle.text_model.specs.Texts.{texts_of}
use Rattle.openurl_reading.specs.IdentifiedNumbers.{issns_of_source}
use Rattle.openurl_reading.proofs.identified_numbers.issns_of_sources.Given as goal

abbrev pub invariant-loop-source : goal.invariant-loop-source
invariant-loop-source l = l.found.items ≡ flat_map issns_of_source (texts_of (take l.source-index l.source-items))
