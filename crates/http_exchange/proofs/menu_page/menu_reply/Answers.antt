use Rattle.std.proofs.Common.{arith, rules}
use Rattle.std.proofs.lemmas.Grind.{common_steps}
use Rattle.http_exchange.proofs.menu_page.menu_reply.Goals as goal

pub returns : goal.returns
returns g c = first_of (search rules, grind (arith, common_steps))
