use Rattle.std.proofs.Common.{sym, arith}
use Rattle.kbart_rows.specs.Lines.{cells_in}
use Rattle.table_inspection.proofs.CellLemmas.{none_past}
use Rattle.table_inspection.proofs.row_line.is_longer.Goals as goal

pub returns-then-cell_count-width : goal.returns-then-cell_count-width
returns-then-cell_count-width c =
    sym (none_past c.args.width (cells_in c.args.line.now) (omega (arith, c.cell_count.ensures, c.if-cell_count-width.true)))
