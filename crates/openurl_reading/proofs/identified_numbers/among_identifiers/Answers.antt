use Rattle.std.proofs.Common.{ap, sym, ◌∙◌}
use Rattle.openurl_reading.specs.IdentifiedNumbers.{identifying_keys, numbers_under}
use Rattle.openurl_reading.proofs.Identified.{first_found}
use Rattle.openurl_reading.proofs.IdentifiedNumbers.{number_under}
use Rattle.openurl_reading.proofs.Walks.{found_later, found_here, found_nowhere, first_of_all}
use Rattle.openurl_reading.proofs.identified_numbers.among_identifiers.Goals as goal

pub loop-key-preserved : goal.loop-key-preserved
loop-key-preserved c =
    found_later (number_under c.args.number c.args.pairs.now) _ _ _ _ c.loop-key-test.true (sym c.in_default.is ∙ c.in_ok-found.ensures)
    c.loop-key.invariant

pub returns-in-Some : goal.returns-in-Some
returns-in-Some c =
    let find = number_under c.args.number c.args.pairs.now in
    found_here find _ _ _ _ _ c.loop-key-test.true (sym c.in-Some.is ∙ c.in_ok-found.ensures) c.loop-key.invariant
    ∙ ap (first_found find) c.identifying_keys-key-items.ensures ∙ first_of_all (numbers_under c.args.number c.args.pairs.now) identifying_keys

pub returns : goal.returns
returns c =
    let find = number_under c.args.number c.args.pairs.now in
    found_nowhere find _ _ _ c.loop-key-test.false c.loop-key.invariant
    ∙ ap (first_found find) c.identifying_keys-key-items.ensures ∙ first_of_all (numbers_under c.args.number c.args.pairs.now) identifying_keys
