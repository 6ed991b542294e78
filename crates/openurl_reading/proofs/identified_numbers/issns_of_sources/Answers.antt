use Rattle.std.proofs.Common.{[], cond, ap, sym, ◌∙◌}
use Rattle.std.specs.Prelude.{codes}
use Rattle.std.specs.List.{flat_map}
use Rattle.text_model.specs.Texts.{texts_of}
use Rattle.openurl_reading.specs.IdentifiedNumbers.{issns_of_source}
use Rattle.openurl_reading.specs.Values.{values_of}
use Rattle.openurl_reading.proofs.Walks.{flat_pushed, flat_all}
use Rattle.openurl_reading.proofs.identified_numbers.issns_of_sources.Goals as goal

pub loop-source-preserved : goal.loop-source-preserved
loop-source-preserved c =
    flat_pushed issns_of_source _ _ _ _ _ _ c.loop-source-test.true c.in_ok-push_all.ensures c.in_ok-issns_of_source.ensures c.loop-source.invariant

pub returns : goal.returns
returns c =
    flat_all issns_of_source _ _ _ c.loop-source-test.false c.loop-source.invariant
    ∙ ap (flat_map issns_of_source) (ap texts_of c.deref-source-items.ensures.value ∙ c.in_ok-values.ensures)
    ∙ sym (ap (λ b. cond b (flat_map issns_of_source (values_of c.args.pairs.now (codes "rft.source"))) [])
    (sym c.is_core.ensures ∙ c.if-not-is_core.false))
