-- The text gets shorter with each call.
use Rattle.std.proofs.Common.{length}
use Rattle.rule_lint.proofs.resemblance.+is_one_edit.Given as goal

abbrev pub decreases-is_one_edit : goal.decreases-is_one_edit
decreases-is_one_edit l = length l.text.now
