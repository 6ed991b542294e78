use Rattle.std.proofs.Common.{sym, ◌∙◌}
use Rattle.work_identifiers.specs.Places.{is_no_mark}
use Rattle.work_identifiers.proofs.Prefixes.{prefix_more, prefix_at}
use Rattle.work_identifiers.proofs.rests.unmarked_length.Goals as goal

pub returns-then-not-is_no_mark-clause-value : goal.returns-then-not-is_no_mark-clause-value
returns-then-not-is_no_mark-clause-value c =
    prefix_at is_no_mark c.args.text.now c.loop-at.at c.loop-at-test.true (sym c.is_no_mark.ensures ∙ c.if-not-is_no_mark.true) c.loop-at.invariant

pub loop-at-preserved : goal.loop-at-preserved
loop-at-preserved c =
    prefix_more is_no_mark c.args.text.now c.loop-at.at c.loop-at-test.true (sym c.is_no_mark.ensures ∙ c.if-not-is_no_mark.false) c.loop-at.invariant
