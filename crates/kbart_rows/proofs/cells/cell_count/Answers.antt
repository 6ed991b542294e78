use Rattle.std.proofs.Common.{◌==◌, count_by, ap, ◌∙◌}
use Rattle.kbart_rows.specs.Cells.{tab}
use Rattle.kbart_rows.proofs.LineCells.{tabs_are_cells}
use Rattle.kbart_rows.proofs.cells.cell_count.Goals as goal

pub returns : goal.returns
returns c = c.tab_count.ensures ∙ ap (count_by (λ b. b == tab)) c.as_bytes.ensures.value ∙ tabs_are_cells c.args.line.now
