-- The text gets shorter with each call.
use Rattle.std.proofs.Common.{length}
use Rattle.rule_lint.proofs.varchars.+are_varchars.Given as goal

abbrev pub decreases-are_varchars : goal.decreases-are_varchars
decreases-are_varchars l = length l.text.now
