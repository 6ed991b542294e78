use Rattle.std.proofs.Common.{◌∙◌}
use Rattle.http_request.proofs.Answers.{route-by_head, route-without_head}
use Rattle.http_request.proofs.Hosts.{hosts-of_spans}
use Rattle.http_request.proofs.request.read_request.Goals as goal

pub returns-in_default-clause-route : goal.returns-in_default-clause-route
returns-in_default-clause-route c = route-without_head c.args.bytes.now _ c.in_default.ensures.none c.route_without_head.ensures

pub returns-clause-route : goal.returns-clause-route
returns-clause-route c =
    let found = c.in-Some.ensures.found in
    let head = found.0 in
    let at = found.1 in
    route-by_head c.args.bytes.now head _ _ _ _ _ _
    (record { rest = _; reads = at.reads; fields = found.2 })
    (c.of-method.ensures ∙ at.method)
    (c.of.ensures ∙ at.path)
    at.version
    (c.host_count-hosts.ensures ∙ hosts-of_spans _ _ _ at.fields)
    c.route_of.ensures.route
    c.is_head.ensures
