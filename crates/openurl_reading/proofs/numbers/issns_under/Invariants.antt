use Rattle.std.proofs.Common.{◌≡◌, take}
use Rattle.text_model.specs.Texts.{texts_of}
use Rattle.standard_numbers.specs.Issn.{issns_in}
use Rattle.openurl_reading.specs.Numbers.{numbers_in}
use Rattle.openurl_reading.proofs.numbers.issns_under.Given as goal

abbrev pub invariant-loop-value : goal.invariant-loop-value
invariant-loop-value l = l.issns.items ≡ numbers_in issns_in (texts_of (take l.value-index l.value-items))
