use Rattle.std.proofs.Common.{◌≡◌, ◌<◌, [], None, Some, length, refl, sym, ap, ◌∙◌, arith}
use Rattle.std.specs.List.{slice_get}
use Rattle.std.proofs.lemmas.Option.{get_or_from_slice_get}
use Rattle.text_model.specs.Texts.{Text}
use Rattle.text_model.proofs.Lists.{past_end}
use Rattle.kbart_rows.specs.Lines.{cells_in, CursorValue}
use Rattle.rule_lint.proofs.ColumnSteps.{next_added, next_kept, rest_unchanged}
use Rattle.rule_lint.proofs.columns.add_row.Goals as goal

pub loop-k-init : goal.loop-k-init
loop-k-init c = record {
  line = ap (λ (cursor : CursorValue). cursor.line) c.new-cells.ensures;
  column = ap (λ (cursor : CursorValue). cursor.column) c.new-cells.ensures;
  added = λ j d h. absurd (omega (arith, h));
  kept = λ j d h. refl;
}

pub returns-in_default : goal.returns-in_default
returns-in_default c =
    let inv = c.loop-k.invariant in
    let cells = cells_in c.args.line.now in
    let none : slice_get cells c.loop-k.k ≡ None =
    sym (c.in_default.ensures.cell ∙ (ap (λ (line : Text). slice_get (cells_in line) c.loop-k.cells.column) inv.line
    ∙ ap (slice_get cells) inv.column)) in
    rest_unchanged c.args.columns.now c.loop-k.columns cells c.args.row c.loop-k.k (past_end cells c.loop-k.k none) inv.added inv.kept

pub loop-k-preserved : goal.loop-k-preserved
loop-k-preserved c =
    let inv = c.loop-k.invariant in
    let cells = cells_in c.args.line.now in
    let k = c.loop-k.k in
    let at : slice_get cells k ≡ Some c.in-Some.cell.now =
    sym (c.in-Some.ensures.cell ∙ (ap (λ (line : Text). slice_get (cells_in line) c.loop-k.cells.column) inv.line
    ∙ ap (slice_get cells) inv.column)) in
    let cell = sym (get_or_from_slice_get cells k c.in-Some.cell.now [] at) in
    let within : k < length c.loop-k.columns = omega (arith, c.loop-k-test.true, c.loop-k.auto.columns) in
    record {
      line = c.in-Some.ensures.line ∙ inv.line;
      column = omega (arith, c.in-Some.ensures.some, inv.column);
      added =
          next_added c.args.columns.now c.loop-k.columns cells c.args.row k c.with_cell.result _ c.in-Some.cell.now within c.with_cell.ensures cell
          inv.added inv.kept;
      kept = next_kept c.args.columns.now c.loop-k.columns k c.with_cell.result inv.kept;
    }
