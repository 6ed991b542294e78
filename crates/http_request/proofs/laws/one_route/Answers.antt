use Rattle.http_request.proofs.Unique.{route-once}
use Rattle.http_request.proofs.laws.one_route.Goals as goal

pub returns : goal.returns
returns c = route-once
