use Rattle.lint_laws.proofs.ReachLemmas.{never_held}
use Rattle.lint_laws.proofs.rules.guards_that_never_hold_fail.Goals as goal

pub returns : goal.returns
returns c = never_held
