use Rattle.row_laws.proofs.HiddenColumns.{bytes_by_columns, members_by_columns}
use Rattle.row_laws.proofs.hidden.hidden_by_columns.Goals as goal

pub returns-clause-bytes : goal.returns-clause-bytes
returns-clause-bytes c = bytes_by_columns

pub returns-clause-members : goal.returns-clause-members
returns-clause-members c = members_by_columns
