use Rattle.http_request.proofs.HeadEnd.{head-ends}
use Rattle.http_request.proofs.laws.a_head_ends_where_it_is_closed.Goals as goal

pub returns : goal.returns
returns c = head-ends
