use Rattle.machine_laws.proofs.PassLemmas.{passes_below, passes_least}
use Rattle.machine_laws.proofs.typable.passes_find_the_least_table.Goals as goal

pub returns-clause-below : goal.returns-clause-below
returns-clause-below start c u n form closed = passes_below c form u closed n

pub returns-clause-least : goal.returns-clause-least
returns-clause-least start c n form closed = passes_least c form n closed
