use Rattle.std.proofs.Common.{◌≡◌, take}
use Rattle.text_model.specs.Texts.{texts_of}
use Rattle.openurl_reading.specs.IdentifiedNumbers.{find_in}
use Rattle.openurl_reading.specs.Numbers.{numbers_in}
use Rattle.openurl_reading.proofs.identified_numbers.numbers_in.Given as goal

abbrev pub invariant-loop-value : goal.invariant-loop-value
invariant-loop-value l = l.found.items ≡ numbers_in (find_in l.number) (texts_of (take l.value-index l.values))
