use Rattle.std.proofs.Common.{◌≡◌, ◌<◌, ◌+◌, List, [], length, get_or, take, sym, ap, ◌∙◌, subst, arith}
use Rattle.text_model.proofs.Lists.{written_back}
use Rattle.kbart_rows.specs.Lines.{cells_in}
use Rattle.rule_lint.specs.declared.columns.Column.{Column}
use Rattle.rule_lint.specs.Private.Columns.{AreColumns, with_cell}
use Rattle.rule_lint.proofs.ColumnSteps.{columns_more}
use Rattle.rule_lint.proofs.columns.columns_of.Goals as goal

pub loop-row-preserved : goal.loop-row-preserved
loop-row-preserved c =
    let table = c.args.table.now in
    let row = c.loop-row.row in
    let columns = c.loop-row.columns.items in
    let lent = c.deref_mut.ensures.value in
    let within : row < length table.rows = omega (arith, c.loop-row-test.true, c.rows-row-end.ensures.count) in
    let size : length c.add_row.new.columns ≡ length columns = c.add_row.auto.columns ∙ ap length lent in
    let whole = written_back c.add_row.new.columns columns c.loop-row.columns.len (sym c.loop-row.columns.ok.0) size in
    subst (AreColumns table.header (take (row + 1) table.rows)) (sym whole)
    (columns_more table.header table.rows row columns c.add_row.new.columns (cells_in c.line.result.now) within c.loop-row.invariant size c.line.ensures.cells
    (λ k d h. c.add_row.ensures k d (omega (arith, h, ap length lent))
    ∙ ap (λ (lent_columns : List Column). with_cell (get_or lent_columns k d) row (get_or (cells_in c.line.result.now) k [])) lent))
