use Rattle.std.proofs.Common.{◌≡◌, [], drop, length, sym, ap, ◌∙◌, arith, rules}
use Rattle.std.proofs.lemmas.Bool.{eqb-true}
use Rattle.std.proofs.lemmas.List.{drop-drop, nil_from_length}
use Rattle.kbart_rows.specs.Lines.{cells_in}
use Rattle.kbart_rows.proofs.LineCells.{no_cells}
use Rattle.kbart_rows.proofs.LineRests.{cell_past_end}
use Rattle.kbart_rows.proofs.cells.cell_at.Goals as goal

pub returns-then-is_empty : goal.returns-then-is_empty
returns-then-is_empty c =
    let cells = cells_in c.args.line.now in
    let empty : c.loop.rest.now ≡ [] = nil_from_length c.loop.rest.now (eqb-true (length c.loop.rest.now) 0 (sym c.is_empty.ensures ∙ c.if-is_empty.true)) in
    let none : [] ≡ drop c.loop.counter cells = sym (ap cells_in empty ∙ no_cells) ∙ c.loop.invariant.1 in
    cell_past_end cells c.loop.counter c.args.column none (omega (arith, c.loop-test.true))

pub loop-preserved : goal.loop-preserved
loop-preserved c = (search rules, c.split_cell.ensures.rest ∙ ap (drop 1) c.loop.invariant.1 ∙ drop-drop 1 c.loop.counter (cells_in c.args.line.now))
