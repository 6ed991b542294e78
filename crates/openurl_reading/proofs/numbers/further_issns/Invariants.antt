use Rattle.std.proofs.Common.{◌≡◌, take, drop}
use Rattle.std.specs.List.{flat_map}
use Rattle.text_model.specs.Texts.{texts_of}
use Rattle.standard_numbers.specs.Issn.{issns_in}
use Rattle.openurl_reading.specs.Values.{searched}
use Rattle.openurl_reading.proofs.numbers.further_issns.Given as goal

abbrev pub invariant-loop-value : goal.invariant-loop-value
invariant-loop-value l = l.issns.items ≡ flat_map (λ value. drop 1 (issns_in (searched value))) (texts_of (take l.value-index l.value-items))
