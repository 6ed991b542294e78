use Rattle.std.proofs.Common.{◌≡◌, drop}
use Rattle.text_model.specs.Texts.{texts_of}
use Rattle.openurl_reading.proofs.Identified.{first_found}
use Rattle.openurl_reading.proofs.IdentifiedNumbers.{number_at}
use Rattle.openurl_reading.proofs.identified_numbers.number_under.Given as goal

abbrev pub invariant-loop-value : goal.invariant-loop-value
invariant-loop-value l =
    first_found (number_at l.number l.key) (texts_of (drop l.value-index l.value-items)) ≡ first_found (number_at l.number l.key) (texts_of l.value-items)
