use Rattle.std.proofs.Common.{sym, ap}
use Rattle.source_menus.specs.Found.{request_value}
use Rattle.source_json.specs.Values.{query_name}
use Rattle.source_json.proofs.links.query_name.Goals as goal

pub returns-in-Own : goal.returns-in-Own
returns-in-Own c = sym (ap (λ request. query_name (request_value request)) c.in-Own.is)

pub returns-in-Further : goal.returns-in-Further
returns-in-Further c = sym (ap (λ request. query_name (request_value request)) c.in-Further.is)

pub returns-in-Any : goal.returns-in-Any
returns-in-Any c = sym (ap (λ request. query_name (request_value request)) c.in-Any.is)
