use Rattle.http_exchange.proofs.Unavailable.{unavailable-head}
use Rattle.http_exchange.proofs.reply.unavailable_head.Goals as goal

pub returns-clause-bytes : goal.returns-clause-bytes
returns-clause-bytes c = unavailable-head
