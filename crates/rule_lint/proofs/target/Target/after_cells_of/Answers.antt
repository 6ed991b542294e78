use Rattle.std.proofs.Common.{◌≡◌, ◌<◌, length, Some, sym, ap, ◌∙◌, subst, arith}
use Rattle.kbart_rows.specs.Cells.{column_of}
use Rattle.rule_lint.specs.HostStates.{after_texts}
use Rattle.rule_lint.specs.Private.Columns.{IsColumn}
use Rattle.rule_lint.proofs.ColumnSteps.{after_kept, cells_of_column, no_column_has_cells}
use Rattle.rule_lint.proofs.target.Target.after_cells_of.Goals as goal

pub returns-in-Some : goal.returns-in-Some
returns-in-Some c =
    let target = c.args.self.now in
    let table = target.table.now in
    let k = c.in-Some.k in
    let found : column_of table.header c.args.name.now ≡ Some k = sym c.column.ensures.first ∙ c.in-Some.is in
    let columns = target.columns_of_table in
    let within : k < length target.columns.items = omega (arith, c.in-Some.ensures.within, columns.count) in
    let kept : IsColumn k table.rows c.index.result.now =
    subst (IsColumn k table.rows) (sym c.index.ensures) (columns.each k c.index.result.now within) in
    c.after.ensures
    ∙ (after_kept k table.rows c.index.result.now c.args.state kept c.requires.early
    ∙ ap (after_texts c.args.state) (sym (cells_of_column table c.args.name.now k found)))

pub returns-in-None : goal.returns-in-None
returns-in-None c =
    let table = c.args.self.now.table.now in
    sym (ap (after_texts c.args.state) (no_column_has_cells table c.args.name.now (sym c.column.ensures.first ∙ c.in-None.is)))
