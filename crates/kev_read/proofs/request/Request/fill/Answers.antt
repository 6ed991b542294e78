use Rattle.std.proofs.Common.{ap, arith}
use Rattle.kev_read.specs.ReadQuery.{ReadQuery}
use Rattle.kev_read.proofs.FillingLemmas.{reaches, reached_bytes, reached_members, only_memory}
use Rattle.kev_read.proofs.request.Request.fill.Goals as goal

pub returns-clause-bytes : goal.returns-clause-bytes
returns-clause-bytes c =
    let reach = reaches _ _ _ _ c.fill.result c.fill.ensures.ok c.fill.ensures.err in
    let query_bytes = ap (λ (r : ReadQuery). r.query_bytes) c.self.view_is in
    let bounded = c.self.invariant.0.values in
    omega (arith, reached_bytes _ _ _ _ reach)

pub returns-clause-members : goal.returns-clause-members
returns-clause-members c = grind (arith, reaches, c.fill.ensures.err, c.self.view_is, reached_members)

pub returns-clause-room : goal.returns-clause-room
returns-clause-room c = grind (arith, c.self.invariant.0.values, only_memory, c.fill.result, c.fill.ensures.err)

pub returns-clause-empty : goal.returns-clause-empty
returns-clause-empty c = grind (arith, only_memory, c.fill.result, c.fill.ensures.err)
