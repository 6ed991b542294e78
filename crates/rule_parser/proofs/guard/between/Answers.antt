-- Without two bounds after `from`, the text is not a guard.
use Rattle.rule_parser.proofs.GuardLemmas.{no_between}
use Rattle.rule_parser.proofs.guard.between.Goals as goal

pub returns-in_default : goal.returns-in_default
returns-in_default c = no_between _ _ c.requires (rw c.in_default.is at c.in_ok-low.ensures)
