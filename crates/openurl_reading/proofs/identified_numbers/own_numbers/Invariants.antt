use Rattle.std.proofs.Common.{◌≡◌, take}
use Rattle.std.specs.List.{flat_map}
use Rattle.text_model.specs.Texts.{texts_of}
use Rattle.kev_read.specs.Pairs.{all_of}
use Rattle.openurl_reading.specs.IdentifiedNumbers.{find_in}
use Rattle.openurl_reading.specs.Numbers.{numbers_in}
use Rattle.openurl_reading.proofs.identified_numbers.own_numbers.Given as goal

abbrev pub invariant-loop-key : goal.invariant-loop-key
invariant-loop-key l =
    l.found.items ≡ flat_map (λ key. numbers_in (find_in l.number) (all_of l.pairs key)) (texts_of (take l.key-index l.key-items))
