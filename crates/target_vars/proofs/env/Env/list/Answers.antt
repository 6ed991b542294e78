use Rattle.std.proofs.Common.{arith}
use Rattle.target_vars.proofs.Laid.{members_lent}
use Rattle.target_vars.proofs.env.Env.list.Goals as goal

pub returns : goal.returns
returns c = grind (arith, c.self.view_is, members_lent, c.new.ensures, c.deref.ensures)
