use Rattle.query_repair.proofs.Steps.{joined_more, all_joined}
use Rattle.query_repair.proofs.joining.push_joined.Goals as goal

pub loop-piece-preserved : goal.loop-piece-preserved
loop-piece-preserved c =
    joined_more c.args.others.now c.loop-piece.piece-index _ c.loop-piece.text.items _ _ _ c.loop-piece.pair.now _ _ _ c.loop-piece-test.true
    c.belongs-is_part.ensures c.separator.ensures c.in_ok-extend_from_slice.ensures.items c.in_ok-extend_from_slice-2.ensures.items
    c.pair_after-pair.ensures c.loop-piece.invariant

pub returns : goal.returns
returns c =
    all_joined c.args.others.now c.loop-piece.piece-index c.loop-piece.text.items c.loop-piece.pair.now _ c.loop-piece-test.false c.loop-piece.invariant
