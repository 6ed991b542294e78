use Rattle.row_laws.proofs.CellsByName.{text_of_row, in_row}
use Rattle.row_laws.proofs.rows.rows_by_names.Goals as goal

pub returns-clause-text : goal.returns-clause-text
returns-clause-text c = text_of_row

pub returns-clause-there : goal.returns-clause-there
returns-clause-there c = in_row
