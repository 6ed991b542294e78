use Rattle.target_vars.proofs.Laid.{laid_empty, laid_entries-empty}
use Rattle.target_vars.proofs.env.Env.new.Goals as goal

pub invariant_of-result : goal.invariant_of-result
invariant_of-result c = rw (c.new.ensures.bytes, c.new-2.ensures.items, c.new-3.ensures, c.new-4.ensures.items) laid_empty

pub returns-clause-value : goal.returns-clause-value
returns-clause-value c = rw (c.new.ensures.bytes, c.new-2.ensures.items, c.new-3.ensures, c.new-4.ensures.items) laid_entries-empty
