use Rattle.std.proofs.Common.{◌≡◌, [], true, get_or, Some, sym, ap, ◌∙◌, arith, if◌then◌else◌}
use Rattle.std.proofs.lemmas.Grind.{common_steps}
use Rattle.kbart_rows.specs.Cells.{column_of}
use Rattle.kbart_rows.specs.Lines.{cells_in}
use Rattle.row_laws.specs.Shadowing.{has_cell, requested_bytes, requested_members}
use Rattle.row_scope.specs.RowEnvironments.{lists_of}
use Rattle.row_scope.specs.RequestValues.{bytes_of_key, members_of_key}
use Rattle.row_scope.proofs.CellLemmas.{cell_there, has_first_cell}
use Rattle.row_scope.proofs.hidden.hidden_at.Goals as goal

pub returns-clause-bytes : goal.returns-clause-bytes
returns-clause-bytes c =
    let header = c.args.table.now.header in
    let line = c.args.cells.now.line in
    let lists = lists_of c.args.code.now in
    let pairs = c.args.request.now.pairs in
    let column = c.args.column in
    let found : c.column.result ≡ Some column = grind (arith, common_steps) in
    let first = ap (column_of header) c.requires.named ∙ sym c.column.ensures.first ∙ found in
    let there = cell_there line column c.seek-len.result.0 c.seek-len.result.1 c.seek-len.ensures.place (omega (arith, c.if-len-eq0.false)) in
    let has : has_cell header (cells_in line) column ≡ true = has_first_cell header (cells_in line) column first there in
    c.sums_of.ensures.bytes
    ∙ ap (λ list. bytes_of_key pairs list c.args.name.now) c.is_list.ensures
    ∙ ap (requested_bytes lists pairs) (sym c.requires.named)
    ∙ sym (ap (λ b. if b then requested_bytes lists pairs (get_or header column []) else 0) has)

pub returns-clause-members : goal.returns-clause-members
returns-clause-members c =
    let header = c.args.table.now.header in
    let line = c.args.cells.now.line in
    let lists = lists_of c.args.code.now in
    let pairs = c.args.request.now.pairs in
    let column = c.args.column in
    let found : c.column.result ≡ Some column = grind (arith, common_steps) in
    let first = ap (column_of header) c.requires.named ∙ sym c.column.ensures.first ∙ found in
    let there = cell_there line column c.seek-len.result.0 c.seek-len.result.1 c.seek-len.ensures.place (omega (arith, c.if-len-eq0.false)) in
    let has : has_cell header (cells_in line) column ≡ true = has_first_cell header (cells_in line) column first there in
    c.sums_of.ensures.members
    ∙ ap (λ list. members_of_key pairs list c.args.name.now) c.is_list.ensures
    ∙ ap (requested_members lists pairs) (sym c.requires.named)
    ∙ sym (ap (λ b. if b then requested_members lists pairs (get_or header column []) else 0) has)
