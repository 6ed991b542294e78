use Rattle.openurl_reading.specs.IdentifiedNumbers.{find_in}
use Rattle.openurl_reading.specs.Values.{searched}
use Rattle.openurl_reading.proofs.Walks.{flat_pushed, flat_all}
use Rattle.openurl_reading.proofs.identified_numbers.numbers_in.Goals as goal

pub loop-value-preserved : goal.loop-value-preserved
loop-value-preserved c =
    flat_pushed (λ value. find_in c.args.number (searched value)) _ _ _ _ _ _ c.loop-value-test.true c.in_ok-push_all.ensures
    c.in_ok-numbers_of.ensures c.loop-value.invariant

pub returns : goal.returns
returns c = flat_all (λ value. find_in c.args.number (searched value)) _ _ _ c.loop-value-test.false c.loop-value.invariant
