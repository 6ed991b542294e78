use Rattle.std.proofs.Common.{ap, sym, ◌∙◌}
use Rattle.text_model.specs.Texts.{texts_of}
use Rattle.openurl_reading.specs.Sources.{journal_in}
use Rattle.openurl_reading.proofs.Identified.{first_found}
use Rattle.openurl_reading.proofs.Walks.{found_later, found_here, found_nowhere}
use Rattle.openurl_reading.proofs.sources.first_journal.Goals as goal

pub loop-source-preserved : goal.loop-source-preserved
loop-source-preserved c =
    found_later journal_in _ _ _ _ c.loop-source-test.true (sym c.in_default.is ∙ c.in_ok-name.ensures) c.loop-source.invariant

pub returns-in-Some : goal.returns-in-Some
returns-in-Some c =
    found_here journal_in _ _ _ _ _ c.loop-source-test.true (sym c.in-Some.is ∙ c.in_ok-name.ensures) c.loop-source.invariant
    ∙ ap (first_found journal_in) (ap texts_of c.deref-source-items.ensures.value ∙ c.in_ok-sources.ensures)

pub returns : goal.returns
returns c =
    found_nowhere journal_in _ _ _ c.loop-source-test.false c.loop-source.invariant
    ∙ ap (first_found journal_in) (ap texts_of c.deref-source-items.ensures.value ∙ c.in_ok-sources.ensures)
