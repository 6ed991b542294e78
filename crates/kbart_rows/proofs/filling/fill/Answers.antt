use Rattle.std.proofs.Common.{◌≡◌, ◌∙◌, drop, length, ap, sym, arith, rules}
use Rattle.std.proofs.lemmas.List.{drop-drop, length-drop}
use Rattle.std.specs.HashMap.{get_by_text}
use Rattle.std.specs.List.{filter_map, range_with_len}
use Rattle.kbart_rows.specs.Cells.{named_cell, named_cells}
use Rattle.kbart_rows.specs.Filling.{with_named_cells, with_defined, StopsAtCell}
use Rattle.kbart_rows.specs.Private.Kept.{cell_at_first}
use Rattle.kbart_rows.specs.Lines.{cells_in}
use Rattle.kev_read.proofs.FillingLemmas.{IfErr_passed_on}
use Rattle.kbart_rows.proofs.FillingLemmas.{column_at, filled_more, stops_at}
use Rattle.kbart_rows.proofs.filling.fill.Goals as goal

pub loop-name-preserved : goal.loop-name-preserved
loop-name-preserved c =
    let header = cells_in c.args.header.now in
    let row = cells_in c.args.line.now in
    let column = c.loop-name.column in
    let inv = c.loop-name.invariant in
    let name = c.in-Some.name.now in
    let cell = c.split_cell.result.0.now in
    let at = column_at header row column name cell _ _ (get_by_text c.args.columns.now name) (sym c.in-Some.ensures.cell ∙ inv.2) inv.3
    c.split_cell.ensures.cell (c.requires name) in
    let inside = at.inside in
    let shorter = c.in-Some.ensures.shorter in (
      search rules,
      search rules,
      at.after,
      c.split_cell.ensures.rest ∙ ap (drop 1) inv.3 ∙ drop-drop 1 column row,
      omega (arith, inside),
      omega (arith, shorter, inv.5),
      c.in_ok-add.ensures.ok ∙ ap (λ (env : _). with_defined env (cell_at_first (get_by_text c.args.columns.now name) column name cell)) inv.6
          ∙ ap (with_defined (with_named_cells c.args.env.now.entries (filter_map (named_cell header row) (range_with_len 0 column)))) at.is
          ∙ filled_more c.args.env.now.entries header row column,
    )

pub returns-in_err-add-clause-err : goal.returns-in_err-add-clause-err
returns-in_err-add-clause-err c =
    let header = cells_in c.args.header.now in
    let row = cells_in c.args.line.now in
    let column = c.loop-name.column in
    let inv = c.loop-name.invariant in
    let name = c.in-Some.name.now in
    let cell = c.split_cell.result.0.now in
    let at = column_at header row column name cell _ _ (get_by_text c.args.columns.now name) (sym c.in-Some.ensures.cell ∙ inv.2) inv.3
    c.split_cell.ensures.cell (c.requires name) in
    let e = c.in_err-add.field-0.0 in
    IfErr_passed_on (StopsAtCell c.args.env.now.entries (named_cells header row) c.add.new.env.entries) c.from_residual.result e c.from_residual.ensures.1
    (stops_at c.args.env.now.entries c.loop-name.env.entries c.add.new.env.entries header row column _ e at.inside at.is inv.6 c.in_err-add.ensures.kept
    c.in_err-add.ensures.err)

pub returns-clause-ok : goal.returns-clause-ok
returns-clause-ok c =
    let header = cells_in c.args.header.now in
    let row = cells_in c.args.line.now in
    let column = c.loop-name.column in
    let inv = c.loop-name.invariant in
    let none = ap length (sym c.in_default.ensures.none ∙ inv.2) in
    let size = length-drop column header in
    let end : column ≡ length header = omega (arith, none, size, inv.4) in
    inv.6 ∙ ap (λ (n : _). with_named_cells c.args.env.now.entries (filter_map (named_cell header row) (range_with_len 0 n))) end
