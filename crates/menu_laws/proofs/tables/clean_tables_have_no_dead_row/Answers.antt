use Rattle.menu_laws.proofs.CleanTables.{row_found}
use Rattle.menu_laws.proofs.tables.clean_tables_have_no_dead_row.Goals as goal

pub returns : goal.returns
returns c = row_found
