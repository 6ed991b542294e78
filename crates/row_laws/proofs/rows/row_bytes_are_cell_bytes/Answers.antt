use Rattle.row_laws.proofs.RowSums.{row_bytes}
use Rattle.row_laws.proofs.ShadowedPairs.{no_members}
use Rattle.row_laws.proofs.rows.row_bytes_are_cell_bytes.Goals as goal

pub returns-clause-bytes : goal.returns-clause-bytes
returns-clause-bytes c = row_bytes

pub returns-clause-members : goal.returns-clause-members
returns-clause-members c = no_members
