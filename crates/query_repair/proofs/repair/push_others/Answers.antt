use Rattle.std.proofs.Common.{◌≡◌, ◌∷◌, ◌++◌, [], ap, ◌∙◌, append_assoc, get_or}
use Rattle.query_repair.specs.Repair.{between}
use Rattle.query_repair.proofs.Steps.{written_after, all_written}
use Rattle.query_repair.proofs.repair.push_others.Goals as goal

pub loop-part-preserved : goal.loop-part-preserved
loop-part-preserved c =
    let before = c.loop-part.text.items in
    let one = (get_or c.args.others.now c.loop-part.part-index _).now in
    written_after (λ part. between part ∷ part) c.args.others.now c.loop-part.part-index _ c.args.text.now.items before _ c.loop-part-test.true
    c.loop-part.invariant
    (c.in_ok-extend_from_slice.ensures.items ∙ ap (λ s. s ++ one) (c.in_ok-push.ensures.items ∙ ap (λ b. before ++ b ∷ []) c.between.ensures)
    ∙ append_assoc before (between one ∷ []) one)

pub returns : goal.returns
returns c =
    c.loop-part.invariant
    ∙ ap (λ s. c.args.text.now.items ++ s) (all_written (λ part. between part ∷ part) c.args.others.now c.loop-part.part-index c.loop-part-test.false)
