use Rattle.std.proofs.Common.{sym, ◌∙◌}
use Rattle.kbart_rows.specs.Lines.{cells_in}
use Rattle.row_scope.specs.RowEnvironments.{lists_of}
use Rattle.row_scope.proofs.ApartLemmas.{no_bytes, no_members}
use Rattle.row_scope.proofs.hidden.hidden_by.Goals as goal

pub returns-else-meets_columns-clause-bytes : goal.returns-else-meets_columns-clause-bytes
returns-else-meets_columns-clause-bytes c =
    let header = c.args.table.now.header in
    let cells = cells_in c.args.line.now in
    let lists = lists_of c.args.code.now in
    let pairs = c.args.request.now.pairs in
    sym (c.hidden_by_columns.ensures.bytes header cells lists pairs
    ∙ no_bytes header cells lists pairs (c.requires.apart (sym c.meets_columns.ensures ∙ c.if-meets_columns.false)))

pub returns-else-meets_columns-clause-members : goal.returns-else-meets_columns-clause-members
returns-else-meets_columns-clause-members c =
    let header = c.args.table.now.header in
    let cells = cells_in c.args.line.now in
    let lists = lists_of c.args.code.now in
    let pairs = c.args.request.now.pairs in
    sym (c.hidden_by_columns.ensures.members header cells lists pairs
    ∙ no_members header cells lists pairs (c.requires.apart (sym c.meets_columns.ensures ∙ c.if-meets_columns.false)))
