use Rattle.std.proofs.Common.{arith}
use Rattle.source_queries.proofs.Bounds.{source_short}
use Rattle.source_queries.proofs.laws.source_queries_are_bounded.Goals as goal

pub returns-clause-repaired : goal.returns-clause-repaired
returns-clause-repaired c = source_short c.texts_are_bounded.ensures.all c.texts_are_bounded.ensures.ascii

pub returns-clause-sent : goal.returns-clause-sent
returns-clause-sent c query =
    let short = source_short c.texts_are_bounded.ensures.all c.texts_are_bounded.ensures.ascii query in
    omega (arith, short, c.repairs_are_bounded.ensures query)
