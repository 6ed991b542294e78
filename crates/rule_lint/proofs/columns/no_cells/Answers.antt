use Rattle.std.proofs.Common.{◌≡◌, ◌∷◌, [], Some, None, All, length, length-append, sym, ap, ◌∙◌, subst, arith}
use Rattle.std.specs.List.{slice_get}
use Rattle.std.proofs.lemmas.List.Elements.{All-push}
use Rattle.std.proofs.lemmas.Option.{slice_get_within}
use Rattle.text_model.specs.Texts.{Text}
use Rattle.text_model.proofs.Lists.{past_end}
use Rattle.kbart_rows.specs.Lines.{cells_in}
use Rattle.rule_lint.specs.declared.columns.Column.{Column}
use Rattle.rule_lint.specs.Private.Columns.{no_cells as no_column}
use Rattle.rule_lint.proofs.ColumnSteps.{none_yet}
use Rattle.rule_lint.proofs.columns.no_cells.Goals as goal

pub loop-columns-preserved : goal.loop-columns-preserved
loop-columns-preserved c =
    let inv = c.loop-columns.invariant in
    let header = cells_in c.args.header.now in
    let column = c.loop-columns.names.column in
    let at : slice_get header column ≡ Some c.in-Some.field-0.now =
    sym (c.in-Some.ensures.cell ∙ ap (λ (line : Text). slice_get (cells_in line) column) inv.line) in
    let next = c.in-Some.ensures.some in
    let items = c.in_ok-push.ensures.items in
    record {
      line = c.in-Some.ensures.line ∙ inv.line;
      within = omega (arith, next, slice_get_within header column c.in-Some.field-0.now at);
      count = omega (arith, ap length items, length-append c.loop-columns.columns.items (c.none.result ∷ []), inv.count, next);
      none = subst (All (λ (column : Column). column ≡ no_column)) (sym items)
          (All-push (λ (column : Column). column ≡ no_column) c.loop-columns.columns.items c.none.result inv.none c.none.ensures);
    }

pub returns : goal.returns
returns c =
    let inv = c.loop-columns.invariant in
    let header = cells_in c.args.header.now in
    let column = c.loop-columns.names.column in
    let none : slice_get header column ≡ None =
    sym (c.in_default.ensures.cell ∙ ap (λ (line : Text). slice_get (cells_in line) column) inv.line) in
    none_yet header c.loop-columns.columns.items (omega (arith, inv.count, inv.within, past_end header column none)) inv.none
