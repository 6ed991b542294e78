use Rattle.std.proofs.Common.{◌≡◌, ℕ, refl, [], ◌+◌, drop, Some, None, sym, ap, ◌∙◌, arith}
use Rattle.std.proofs.lemmas.Option.{slice_get_within}
use Rattle.std.specs.List.{slice_get}
use Rattle.text_model.specs.Texts.{Text}
use Rattle.kbart_rows.specs.Cells.{Row}
use Rattle.kbart_rows.specs.Lines.{cells_in}
use Rattle.table_inspection.proofs.CellLemmas.{any_text, left_at, none_left, past_found, past_continues}
use Rattle.table_inspection.proofs.row_line.has_text_past.Goals as goal

pub returns-then-is_past : goal.returns-then-is_past
returns-then-is_past c =
    let inv = c.loop-cell.invariant in
    let cells = cells_in c.args.line.now in
    let column = c.loop-cell.cells.column in
    let at : slice_get cells column ≡ Some c.in-Some.cell.now =
    sym (c.in-Some.ensures.cell ∙ ap (λ (line : Text). slice_get (cells_in line) column) inv.line) in
    let left = left_at cells column c.in-Some.cell.now at in
    sym (inv.same ∙ ap (λ (rest : Row). any_text (drop c.loop-cell.left rest)) left
    ∙ past_found c.loop-cell.left c.in-Some.cell.now (drop (column + 1) cells) (sym c.is_past.ensures ∙ c.if-is_past.true))

pub loop-cell-smaller : goal.loop-cell-smaller
loop-cell-smaller c =
    let inv = c.loop-cell.invariant in
    let cells = cells_in c.args.line.now in
    let column = c.loop-cell.cells.column in
    let at : slice_get cells column ≡ Some c.in-Some.cell.now =
    sym (c.in-Some.ensures.cell ∙ ap (λ (line : Text). slice_get (cells_in line) column) inv.line) in
    omega (arith, slice_get_within cells column c.in-Some.cell.now at, c.in-Some.ensures.some)

pub loop-cell-preserved : goal.loop-cell-preserved
loop-cell-preserved c =
    let inv = c.loop-cell.invariant in
    let cells = cells_in c.args.line.now in
    let column = c.loop-cell.cells.column in
    let at : slice_get cells column ≡ Some c.in-Some.cell.now =
    sym (c.in-Some.ensures.cell ∙ ap (λ (line : Text). slice_get (cells_in line) column) inv.line) in
    let left = left_at cells column c.in-Some.cell.now at in
    let next = c.in-Some.ensures.some in
    record {
      line = c.in-Some.ensures.line ∙ inv.line;
      within = omega (arith, next, slice_get_within cells column c.in-Some.cell.now at);
      same = inv.same ∙ ap (λ (rest : Row). any_text (drop c.loop-cell.left rest)) left
          ∙ past_continues c.loop-cell.left c.in-Some.cell.now (drop (column + 1) cells) (sym c.is_past.ensures ∙ c.if-is_past.false)
          ∙ ap (λ (n : _). any_text (drop n (drop (column + 1) cells))) (sym c.saturating_sub-left.ensures)
          ∙ ap (λ (n : _). any_text (drop c.saturating_sub-left.result (drop n cells))) (sym next);
    }

no_text : (left : ℕ) (cells : Row) → cells ≡ [] → any_text (drop left cells) ≡ any_text []
no_text left cells empty = ap (λ (cells : Row). any_text (drop left cells)) empty ∙ ap any_text (none_left [] left refl)

pub returns : goal.returns
returns c =
    let inv = c.loop-cell.invariant in
    let cells = cells_in c.args.line.now in
    let column = c.loop-cell.cells.column in
    let none : slice_get cells column ≡ None = sym (c.in_default.ensures.cell ∙ ap (λ (line : Text). slice_get (cells_in line) column) inv.line) in
    sym (inv.same ∙ no_text c.loop-cell.left (drop column cells) (none_left cells column none))
