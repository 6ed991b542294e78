use Rattle.std.proofs.Common.{◌<◌, arith}
use Rattle.query_repair.specs.Pieces.{mark_length}
use Rattle.query_repair.proofs.Marks.{next_mark}
use Rattle.query_repair.proofs.pieces.unmarked.Goals as goal

pub loop-rest-preserved : goal.loop-rest-preserved
loop-rest-preserved c =
    let some : 0 < mark_length c.loop-rest.rest.now = omega (arith, c.mark_len.ensures.value, c.loop-rest-test.true) in
    next_mark c.loop-rest.rest.now c.split_at.result.1.now c.args.part.now c.mark_len-in-loop-rest.result
    c.mark_len-in-loop-rest.ensures.value some c.split_at.ensures.back c.loop-rest.invariant
