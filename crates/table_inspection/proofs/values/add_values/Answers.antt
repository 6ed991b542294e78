use Rattle.std.proofs.Common.{arith}
use Rattle.std.proofs.lemmas.Grind.{common_steps}
use Rattle.table_inspection.specs.Cells.{bad_dates, bad_links, long_rows}
use Rattle.table_inspection.specs.Inspection.{findings_in_values}
use Rattle.table_inspection.proofs.values.add_values.Goals as goal

pub returns : goal.returns
unfolding findings_in_values bad_dates bad_links long_rows
returns c = grind (arith, common_steps)
