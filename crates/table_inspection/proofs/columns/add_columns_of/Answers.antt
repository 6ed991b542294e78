use Rattle.std.proofs.Common.{◌≡◌, Some, None, length, sym, ap, ◌∙◌, arith}
use Rattle.std.proofs.lemmas.Option.{get_or_from_slice_get, slice_get_within}
use Rattle.std.specs.List.{slice_get}
use Rattle.printed_text.proofs.Adding.{adds_both, adds_none}
use Rattle.kbart_rows.specs.Cells.{Row}
use Rattle.kbart_rows.specs.Lines.{cells_in, CursorValue}
use Rattle.table_inspection.specs.Private.Headers.{findings_of}
use Rattle.kbart_rows.proofs.LineCells.{few_cells}
use Rattle.table_inspection.proofs.CellLemmas.{header_end}
use Rattle.table_inspection.proofs.Ranges.{flat_more}
use Rattle.table_inspection.proofs.columns.add_columns_of.Goals as goal

pub loop-name-init : goal.loop-name-init
loop-name-init c =
    let few = few_cells c.header.result.now in
    record {
      names = ap (λ (names : _). cells_in names.line) c.new-names.ensures ∙ c.header.ensures.cells;
      column = sym (ap (λ (names : CursorValue). names.column) c.new-names.ensures);
      within = omega arith;
      few = omega (arith, few, ap length c.header.ensures.cells, c.header.ensures.short);
      added = adds_none _;
    }

pub add_column-requires : goal.add_column-requires
add_column-requires c =
    let inv = c.loop-name.invariant in
    let header = c.args.table.now.header in
    let column = c.loop-name.column in
    let at : slice_get header column ≡ Some c.in-Some.name.now =
    sym (c.in-Some.ensures.cell ∙ ap (λ (cells : Row). slice_get cells c.loop-name.names.column) inv.names
    ∙ ap (λ (place : _). slice_get header place) (sym inv.column)) in
    sym (get_or_from_slice_get header column c.in-Some.name.now _ at)

pub loop-name-preserved : goal.loop-name-preserved
loop-name-preserved c =
    let inv = c.loop-name.invariant in
    let header = c.args.table.now.header in
    let column = c.loop-name.column in
    let at : slice_get header column ≡ Some c.in-Some.name.now =
    sym (c.in-Some.ensures.cell ∙ ap (λ (cells : Row). slice_get cells c.loop-name.names.column) inv.names
    ∙ ap (λ (place : _). slice_get header place) (sym inv.column)) in
    let next = c.in-Some.ensures.some in
    let inside = slice_get_within header column c.in-Some.name.now at in
    record {
      names = ap cells_in c.in-Some.ensures.line ∙ inv.names;
      column = omega (arith, inv.column, next);
      within = omega (arith, inside);
      few = inv.few;
      added = let more = flat_more (findings_of c.args.kind header) column in rw more (adds_both _ _ _ _ _ inv.added c.in_ok-add_column.ensures);
    }

pub returns : goal.returns
returns c =
    let inv = c.loop-name.invariant in
    let header = c.args.table.now.header in
    let column = c.loop-name.column in
    let none : slice_get header column ≡ None = sym (c.in_default.ensures.cell ∙ ap (λ (cells : Row). slice_get cells c.loop-name.names.column) inv.names
    ∙ ap (λ (place : _). slice_get header place) (sym inv.column)) in
    let end : column ≡ length header = header_end header column inv.within none in
    rw (← end) inv.added

pub loop-name-smaller : goal.loop-name-smaller
loop-name-smaller c =
    let inv = c.loop-name.invariant in
    let header = c.args.table.now.header in
    let at : slice_get header c.loop-name.column ≡ Some c.in-Some.name.now = sym (c.in-Some.ensures.cell
    ∙ ap (λ (cells : Row). slice_get cells c.loop-name.names.column) inv.names ∙ ap (λ (place : _). slice_get header place) (sym inv.column)) in
    let inside = slice_get_within header c.loop-name.column c.in-Some.name.now at in
    omega (arith, inside, inv.column, c.in-Some.ensures.some)
