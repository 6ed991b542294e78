use Rattle.http_exchange.proofs.SameMenus.{follow}
use Rattle.http_exchange.proofs.laws.replies_follow_menus.Goals as goal

pub returns : goal.returns
returns c = follow
