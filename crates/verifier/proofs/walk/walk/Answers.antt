use Rattle.std.proofs.Common.{length, arith}
use Rattle.verifier.specs.Private.Rows.{table_of}
use Rattle.verifier.specs.Private.Walks.{table_rises}
use Rattle.verifier.proofs.GrowingTables.{least_of, less_left_in}
use Rattle.verifier.proofs.walk.walk.Goals as goal

pub returns : goal.returns
returns c = record {
  least = least_of c.args.layout.now.code.now c.loop-place.place (table_of c.loop-place.table) (omega (arith, c.requires.long)) c.loop-place.invariant.closed
      c.loop-place.invariant.below;
}

pub loop-place-smaller : goal.loop-place-smaller
loop-place-smaller c = less_left_in (length c.loop-place.table) (length c.step-place.new.table) c.loop-place.place c.step-place.result
    (table_rises c.loop-place.table) (table_rises c.step-place.new.table) c.step-place.ensures.on.long c.loop-place-test.true c.step-place.ensures.on.on
    c.step-place.ensures.on.less c.step-place.ensures.on.back
