use Rattle.std.proofs.Common.{arith}
use Rattle.kbart_rows.specs.Identifiers.{identifier_columns}
use Rattle.kbart_rows.specs.Private.Index.{HasEntries}
use Rattle.kbart_rows.proofs.RowSharing.{IfOk-both, has_in_view, row_shares}
use Rattle.kbart_rows.proofs.table.Table.sharing.Goals as goal

pub returns-clause-bounds : goal.returns-clause-bounds
returns-clause-bounds c =
    let table = c.args.self.now in
    let entries = c.as_slice.result.now in
    let has : HasEntries table.keys (identifier_columns table.header) table.rows entries =
    has_in_view c.self.inside.lines _ table c.self.inside.print c.self.inside.online c.self.inside.index entries c.self.view_is
    c.self.invariant.identified c.as_slice.ensures.entries c.self.invariant.has in
    IfOk-both c.sharing_of.result _ _ _ (λ notes count noted row d within.
    row_shares table entries notes.items row d c.as_slice.ensures.order has noted (omega (arith, within, count, c.rows.ensures.count)))
    c.sharing_of.ensures.count c.sharing_of.ensures.noted
