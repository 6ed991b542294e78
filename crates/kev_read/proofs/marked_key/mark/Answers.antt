use Rattle.std.proofs.Common.{fold, ap, ◌∙◌, arith, take_all}
use Rattle.kev_read.specs.Private.KeyMarks.{mark_of, next_mark}
use Rattle.kev_read.proofs.marked_key.mark.Goals as goal

pub returns : goal.returns
unfolding mark_of
returns c = c.loop-byte.invariant ∙ ap (fold next_mark 0) (take_all c.loop-byte.byte-index c.args.key.now (omega arith))
