-- Without a quoted text after `is`, the text is not a guard.
use Rattle.rule_parser.proofs.GuardLemmas.{no_same}
use Rattle.rule_parser.proofs.guard.same.Goals as goal

pub returns-in_default : goal.returns-in_default
returns-in_default c = no_same _ _ c.requires (rw c.in_default.is at c.in_ok-text.ensures)
