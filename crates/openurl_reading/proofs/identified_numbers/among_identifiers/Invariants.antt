use Rattle.std.proofs.Common.{◌≡◌, drop}
use Rattle.text_model.specs.Texts.{texts_of}
use Rattle.openurl_reading.proofs.Identified.{first_found}
use Rattle.openurl_reading.proofs.IdentifiedNumbers.{number_under}
use Rattle.openurl_reading.proofs.identified_numbers.among_identifiers.Given as goal

abbrev pub invariant-loop-key : goal.invariant-loop-key
invariant-loop-key l =
    first_found (number_under l.number l.pairs) (texts_of (drop l.key-index l.key-items)) ≡ first_found (number_under l.number l.pairs) (texts_of l.key-items)
