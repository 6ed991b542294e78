use Rattle.std.proofs.Common.{◌≡◌, take}
use Rattle.text_model.specs.Texts.{texts_of}
use Rattle.standard_numbers.specs.Isbn.{isbns_in}
use Rattle.openurl_reading.specs.Numbers.{numbers_in}
use Rattle.openurl_reading.proofs.numbers.isbns_under.Given as goal

abbrev pub invariant-loop-value : goal.invariant-loop-value
invariant-loop-value l = l.isbns.items ≡ numbers_in isbns_in (texts_of (take l.value-index l.value-items))
