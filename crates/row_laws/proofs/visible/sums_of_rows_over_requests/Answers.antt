use Rattle.row_laws.proofs.ShadowedPairs.{bytes_are, members_are}
use Rattle.row_laws.proofs.visible.sums_of_rows_over_requests.Goals as goal

pub returns-clause-bytes : goal.returns-clause-bytes
returns-clause-bytes c = bytes_are

pub returns-clause-members : goal.returns-clause-members
returns-clause-members c = members_are
