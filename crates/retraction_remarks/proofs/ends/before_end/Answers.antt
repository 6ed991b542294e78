use Rattle.std.proofs.Common.{◌∙◌, ap, sym}
use Rattle.std.proofs.Common.{Some}
use Rattle.retraction_remarks.specs.Remarks as spec
use Rattle.retraction_remarks.proofs.Places.{place_here, place_later}
use Rattle.retraction_remarks.proofs.ends.before_end.Goals as goal

pub returns-then-is_at : goal.returns-then-is_at
returns-then-is_at c =
    let test = spec.is_at c.args.end in
    ap Some c.split_at.ensures.front
    ∙ sym (place_here test c.args.text.now c.loop-at.at c.loop-at-test.true
    (ap test (sym c.split_at.ensures.back) ∙ sym c.is_at.ensures ∙ c.if-is_at.true))
    ∙ c.loop-at.invariant

pub loop-at-preserved : goal.loop-at-preserved
loop-at-preserved c =
    let test = spec.is_at c.args.end in
    place_later test c.args.text.now c.loop-at.at c.loop-at-test.true
    (ap test (sym c.split_at.ensures.back) ∙ sym c.is_at.ensures ∙ c.if-is_at.false)
    ∙ c.loop-at.invariant
