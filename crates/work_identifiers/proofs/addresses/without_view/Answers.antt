use Rattle.std.proofs.Common.{ap, get_or, sym, ◌∙◌}
use Rattle.work_identifiers.specs.Addresses.{is_cut}
use Rattle.work_identifiers.proofs.AddressSteps.{view_more, view_here, view_all}
use Rattle.work_identifiers.proofs.addresses.without_view.Goals as goal

pub returns-then-is_cut : goal.returns-then-is_cut
returns-then-is_cut c =
    let b = get_or c.args.text.now c.loop-at.at 0 in
    c.split_at-then-is_cut.ensures.front
    ∙ view_here c.args.text.now c.loop-at.at c.loop-at-test.true c.loop-at.invariant
    (ap (is_cut b) (sym c.split_at.ensures.back) ∙ sym c.is_cut.ensures ∙ c.if-is_cut.true)

pub loop-at-preserved : goal.loop-at-preserved
loop-at-preserved c =
    let b = get_or c.args.text.now c.loop-at.at 0 in
    view_more c.args.text.now c.loop-at.at c.loop-at-test.true c.loop-at.invariant
    (ap (is_cut b) (sym c.split_at.ensures.back) ∙ sym c.is_cut.ensures ∙ c.if-is_cut.false)

pub returns : goal.returns
returns c = view_all c.args.text.now c.loop-at.at c.loop-at-test.false c.loop-at.invariant
