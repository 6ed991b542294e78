-- Without a quoted text after `holds`, the text is not a guard.
use Rattle.rule_parser.proofs.GuardLemmas.{no_holds}
use Rattle.rule_parser.proofs.guard.holds.Goals as goal

pub returns-in_default : goal.returns-in_default
returns-in_default c = no_holds _ _ c.requires (rw c.in_default.is at c.in_ok-text.ensures)
