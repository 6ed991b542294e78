use Rattle.std.proofs.Common.{arith}
use Rattle.table_inspection.proofs.KnownRows.{few_matches}
use Rattle.table_inspection.proofs.tally.rows_of.Goals as goal

pub returns : goal.returns
returns c =
    let few = few_matches c.args.table.now c.args.ids.now in
    omega (arith, few, c.loop-count.invariant, c.loop-count-test.false, c.rows-most.ensures.count)
