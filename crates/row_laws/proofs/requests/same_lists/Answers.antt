use Rattle.row_laws.proofs.OneMoreList.{same_requested}
use Rattle.row_laws.proofs.requests.same_lists.Goals as goal

pub returns : goal.returns
returns c = same_requested
