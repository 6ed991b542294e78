-- The columns, one at a time.
use Rattle.std.proofs.Common.{◌≡◌, ◌+◌, ◌++◌, ◌∷◌, [], None, Some, filter, take, sym, ap, ◌∙◌, arith}
use Rattle.std.specs.List.{slice_get}
use Rattle.std.proofs.lemmas.List.{take_all, take_more}
use Rattle.std.proofs.lemmas.List.Elements.{filter-append}
use Rattle.std.proofs.lemmas.Option.{get_or_from_slice_get, slice_get_within}
use Rattle.text_model.specs.Texts.{Text}
use Rattle.text_model.proofs.Lists.{past_end}
use Rattle.kbart_rows.specs.Cells.{Row}
use Rattle.kbart_rows.specs.Lines.{cells_in}
use Rattle.rule_lint.specs.Names.{is_name}
use Rattle.rule_lint.proofs.names.template_columns.Goals as goal

pub loop-column-smaller : goal.loop-column-smaller
loop-column-smaller c =
    let header = c.args.table.now.header in
    let column = c.loop-column.columns.column in
    let name = c.in-Some.column.now in
    let at : slice_get header column ≡ Some name =
    sym (c.in-Some.ensures.cell ∙ ap (λ (cells : Row). slice_get cells column) c.loop-column.invariant.header) in
    omega (arith, c.in-Some.ensures.some, slice_get_within header column name at)

pub loop-column-preserved : goal.loop-column-preserved
loop-column-preserved c =
    let header = c.args.table.now.header in
    let column = c.loop-column.columns.column in
    let name = c.in-Some.column.now in
    let inv = c.loop-column.invariant in
    let at : slice_get header column ≡ Some name = sym (c.in-Some.ensures.cell ∙ ap (λ (cells : Row). slice_get cells column) inv.header) in
    let next = c.in-Some.ensures.some in
    let inside = slice_get_within header column name at in
    let more : take (column + 1) header ≡ take column header ++ name ∷ [] =
    take_more header column [] inside ∙ ap (λ (cell : Text). take column header ++ cell ∷ []) (get_or_from_slice_get header column name [] at) in
    record {
      header = ap cells_in c.in-Some.ensures.line ∙ inv.header;
      within = omega (arith, next, inside);
      names =
          c.in_ok-push_if_template_name.ensures
          ∙ (ap (λ (names : Row). names ++ filter is_name (name ∷ [])) inv.names
          ∙ (sym (filter-append is_name (take column header) (name ∷ []))
          ∙ (ap (filter is_name) (sym more) ∙ ap (λ n. filter is_name (take n header)) (sym next))));
    }

pub returns : goal.returns
returns c =
    let header = c.args.table.now.header in
    let column = c.loop-column.columns.column in
    let inv = c.loop-column.invariant in
    let none : slice_get header column ≡ None = sym (c.in_default.ensures.cell ∙ ap (λ (cells : Row). slice_get cells column) inv.header) in
    inv.names ∙ ap (filter is_name) (take_all column header (past_end header column none))
