use Rattle.std.proofs.Common.{◌≤◌, length, arith}
use Rattle.kbart_rows.specs.Lines.{cells_in}
use Rattle.kbart_rows.proofs.RowSums.{all_counted}
use Rattle.kbart_rows.proofs.sums.sum_of.Goals as goal

pub returns-then-cells-counts : goal.returns-then-cells-counts
returns-then-cells-counts c =
    let counts = c.args.counts.now in
    let cells = cells_in c.args.line.now in
    let few : length cells ≤ length counts = omega (arith, c.cell_count-cells.ensures, c.if-cells-counts.true) in
    omega (arith, c.cell_count-cells.ensures, c.requires.closed, all_counted counts cells (c.requires.all c.if-all_count.true) few)
