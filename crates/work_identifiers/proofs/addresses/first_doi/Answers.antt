use Rattle.std.proofs.Common.{ap, get_or, sym, ◌∙◌}
use Rattle.work_identifiers.specs.Addresses.{doi_after}
use Rattle.work_identifiers.proofs.AddressSteps.{doi_more, doi_here}
use Rattle.work_identifiers.proofs.addresses.first_doi.Goals as goal

pub returns-in-Some-clause-value : goal.returns-in-Some-clause-value
returns-in-Some-clause-value c =
    doi_here c.args.address.now c.in-Some.doi.now c.loop-at.at c.loop-at-test.true c.loop-at.invariant
    (ap (doi_after (get_or c.args.address.now c.loop-at.at 0)) (sym c.split_at.ensures.back) ∙ sym c.in-Some.ensures.value)

pub loop-at-preserved : goal.loop-at-preserved
loop-at-preserved c =
    doi_more c.args.address.now c.loop-at.at c.loop-at-test.true c.loop-at.invariant
    (ap (doi_after (get_or c.args.address.now c.loop-at.at 0)) (sym c.split_at.ensures.back) ∙ sym c.in_default.ensures.value)
