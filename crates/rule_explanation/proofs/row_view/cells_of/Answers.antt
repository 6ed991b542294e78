-- One more cell, and the last.
use Rattle.std.proofs.Common.{◌≡◌, ◌++◌, [], ◌∷◌, None, Some, take, sym, ap, ◌∙◌, arith}
use Rattle.std.proofs.lemmas.List.{map-append, take_all, take_more}
use Rattle.std.proofs.lemmas.Option.{get_or_from_slice_get, slice_get_within}
use Rattle.std.specs.List.{slice_get}
use Rattle.text_model.specs.Texts.{Text, texts_of}
use Rattle.text_model.proofs.Lists.{past_end}
use Rattle.kbart_rows.specs.Lines.{cells_in}
use Rattle.rule_explanation.proofs.row_view.cells_of.Goals as goal

pub loop-cell-preserved : goal.loop-cell-preserved
loop-cell-preserved c =
    let cells = cells_in c.args.line.now in
    let column = c.loop-cell.cursor.column in
    let cell = c.in-Some.cell.now in
    let inv = c.loop-cell.invariant in
    let at : slice_get cells column ≡ Some cell = sym (c.in-Some.ensures.cell ∙ ap (λ (line : Text). slice_get (cells_in line) column) inv.line) in
    let within = slice_get_within cells column cell at in
    let next = c.in-Some.ensures.some in
    record {
      line = c.in-Some.ensures.line ∙ inv.line;
      within = omega (arith, next, within);
      cells = ap texts_of c.in_ok-push.ensures.items ∙ map-append _ c.loop-cell.cells.items (c.in-Some.cell ∷ [])
          ∙ ap (λ (texts : _). texts ++ cell ∷ []) inv.cells
          ∙ ap (λ (text : Text). take column cells ++ text ∷ []) (sym (get_or_from_slice_get cells column cell [] at))
          ∙ sym (take_more cells column [] within) ∙ ap (λ (n : _). take n cells) (sym next);
    }

pub returns : goal.returns
returns c =
    let cells = cells_in c.args.line.now in
    let column = c.loop-cell.cursor.column in
    let inv = c.loop-cell.invariant in
    let none : slice_get cells column ≡ None = sym (c.in_default.ensures.cell ∙ ap (λ (line : Text). slice_get (cells_in line) column) inv.line) in
    inv.cells ∙ take_all column cells (past_end cells column none)
