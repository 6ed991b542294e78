use Rattle.row_laws.proofs.RequestedEntries.{text_requested, members_requested}
use Rattle.row_laws.proofs.requests.requests_by_keys.Goals as goal

pub returns-clause-text : goal.returns-clause-text
returns-clause-text c = text_requested

pub returns-clause-members : goal.returns-clause-members
returns-clause-members c = members_requested
