use Rattle.std.proofs.Common.{arith, string_bytes}
use Rattle.target_vars.proofs.Laid.{laid_in_order}
use Rattle.target_vars.proofs.env.Env.buffer.Goals as goal

pub returns-clause-within : goal.returns-clause-within
returns-clause-within c = grind (arith, laid_in_order, string_bytes, c.self.invariant)

pub returns-clause-in_order : goal.returns-clause-in_order
returns-clause-in_order c = grind (arith, laid_in_order, string_bytes, c.self.invariant)
