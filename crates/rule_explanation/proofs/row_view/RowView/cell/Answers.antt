-- A cell is no longer than its row.
use Rattle.std.proofs.Common.{[], Bor, get_or, length, sym, ap, ◌∙◌, arith}
use Rattle.std.proofs.lemmas.Bool.{ltb-true}
use Rattle.std.proofs.lemmas.List.{get_or_read}
use Rattle.text_model.specs.Texts.{Text, texts_of}
use Rattle.rule_explanation.specs.Private.Seen.{RulesRequestValue}
use Rattle.rule_explanation.proofs.CellLemmas.{short_cell}
use Rattle.rule_explanation.proofs.row_view.RowView.cell.Goals as goal

pub returns-else-is_empty-clause-small : goal.returns-else-is_empty-clause-small
returns-else-is_empty-clause-small c =
    let table = c.request.inside.table.now in
    let cells = c.deref.result.now in
    let cell = c.in_ok-cell.field-0.now in
    let column = c.in_ok-column.field-0 in
    let within = ltb-true column (length cells) (sym c.in_ok-cell.ensures.lookup.0) in
    let at = get_or_read cells column cell within c.in_ok-cell.ensures.lookup.1 cell in
    let row = c.self.inside.row in
    let are = ap texts_of c.deref.ensures.value ∙ c.self.invariant
    ∙ ap (λ (r : RulesRequestValue). get_or r.table.rows row []) (sym c.request.view_is) in
    let short = short_cell table.header table.rows row cells column cell c.rows-known.ensures.fit are within in
    omega (arith, ap (λ (cell : Bor Text). length cell.now) at, short)
