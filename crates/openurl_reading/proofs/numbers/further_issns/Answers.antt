use Rattle.std.proofs.Common.{ap, drop, ◌∙◌}
use Rattle.standard_numbers.specs.Issn.{issns_in}
use Rattle.std.specs.List.{flat_map}
use Rattle.text_model.specs.Texts.{texts_of}
use Rattle.openurl_reading.specs.Values.{searched}
use Rattle.openurl_reading.proofs.Walks.{flat_pushed, flat_all}
use Rattle.openurl_reading.proofs.numbers.further_issns.Goals as goal

pub loop-value-preserved : goal.loop-value-preserved
loop-value-preserved c =
    flat_pushed (λ value. drop 1 (issns_in (searched value))) _ _ _ _ _ _ c.loop-value-test.true c.in_ok-push_rest.ensures
    (ap (drop 1) c.in_ok-issns_of.ensures) c.loop-value.invariant

pub returns : goal.returns
returns c =
    flat_all (λ value. drop 1 (issns_in (searched value))) _ _ _ c.loop-value-test.false c.loop-value.invariant
    ∙ ap (flat_map (λ value. drop 1 (issns_in (searched value)))) (ap texts_of c.deref-value-items.ensures.value ∙ c.in_ok-values.ensures)
