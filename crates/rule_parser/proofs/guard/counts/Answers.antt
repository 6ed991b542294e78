-- Without two bounds after `counts`, the text is not a guard.
use Rattle.rule_parser.proofs.GuardLemmas.{no_counts}
use Rattle.rule_parser.proofs.guard.counts.Goals as goal

pub returns-in_default : goal.returns-in_default
returns-in_default c = no_counts _ _ c.requires (rw c.in_default.is at c.in_ok-low.ensures)
