use Rattle.std.proofs.Common.{ap, sym, ◌∙◌}
use Rattle.text_model.specs.Texts.{texts_of}
use Rattle.openurl_reading.specs.IdentifiedNumbers.{numbers_at}
use Rattle.openurl_reading.proofs.Identified.{first_found}
use Rattle.openurl_reading.proofs.IdentifiedNumbers.{number_at}
use Rattle.openurl_reading.proofs.Walks.{found_later, found_here, found_nowhere, first_of_all}
use Rattle.openurl_reading.proofs.identified_numbers.number_under.Goals as goal

pub loop-value-preserved : goal.loop-value-preserved
loop-value-preserved c =
    found_later (number_at c.args.number c.args.key.now) _ _ _ _ c.loop-value-test.true (sym c.in_default.is ∙ c.in_ok-found.ensures)
    c.loop-value.invariant

pub returns-in-Some : goal.returns-in-Some
returns-in-Some c =
    let find = number_at c.args.number c.args.key.now in
    found_here find _ _ _ _ _ c.loop-value-test.true (sym c.in-Some.is ∙ c.in_ok-found.ensures) c.loop-value.invariant
    ∙ ap (first_found find) (ap texts_of c.deref-value-items.ensures.value ∙ c.in_ok-all.ensures)
    ∙ first_of_all (numbers_at c.args.number c.args.key.now) _

pub returns : goal.returns
returns c =
    let find = number_at c.args.number c.args.key.now in
    found_nowhere find _ _ _ c.loop-value-test.false c.loop-value.invariant
    ∙ ap (first_found find) (ap texts_of c.deref-value-items.ensures.value ∙ c.in_ok-all.ensures)
    ∙ first_of_all (numbers_at c.args.number c.args.key.now) _
