use Rattle.std.proofs.Common.{◌≡◌, [], drop, length, sym, ◌∙◌, arith}
use Rattle.std.proofs.lemmas.Bool.{eqb-true}
use Rattle.std.proofs.lemmas.List.{nil_from_length}
use Rattle.kbart_rows.specs.Lines.{cells_in}
use Rattle.kbart_rows.specs.Private.Kept.{counted_bytes}
use Rattle.kbart_rows.proofs.LineCells.{cells_fit, no_cells}
use Rattle.kbart_rows.proofs.RowSums.{counted_within, none_counted}
use Rattle.kbart_rows.proofs.sums.sum_by_column.Goals as goal

pub overflow_add-sum : goal.overflow_add-sum
overflow_add-sum c = grind (arith, c.loop-is_counted.invariant.1, counted_within, cells_fit, c.requires)

pub overflow_cast-result : goal.overflow_cast-result
overflow_cast-result c = grind (arith, counted_within, cells_fit, c.requires)

pub overflow_cast-result-2 : goal.overflow_cast-result-2
overflow_cast-result-2 c = grind (arith, counted_within, cells_fit, c.requires)

pub returns-then-is_empty : goal.returns-then-is_empty
returns-then-is_empty c =
    let left = drop c.loop-is_counted.is_counted-index c.args.counts.now in
    let rest = c.loop-is_counted.rest.now in
    let empty : rest ≡ [] = nil_from_length rest (eqb-true (length rest) 0 (sym c.is_empty.ensures ∙ c.if-is_empty.true)) in
    let none : counted_bytes left (cells_in rest) ≡ 0 = grind (arith, empty, no_cells, none_counted) in
    omega (arith, c.loop-is_counted.invariant.1, none)
