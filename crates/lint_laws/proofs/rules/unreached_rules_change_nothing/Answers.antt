use Rattle.lint_laws.proofs.ReachLemmas.{never_taken}
use Rattle.lint_laws.proofs.rules.unreached_rules_change_nothing.Goals as goal

pub returns : goal.returns
returns c = never_taken
