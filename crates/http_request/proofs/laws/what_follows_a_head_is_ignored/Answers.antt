use Rattle.http_request.proofs.Unique.{head-stays}
use Rattle.http_request.proofs.laws.what_follows_a_head_is_ignored.Goals as goal

pub returns : goal.returns
returns c = head-stays
