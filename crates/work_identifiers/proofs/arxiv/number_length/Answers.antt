use Rattle.std.proofs.Common.{sym, ◌∙◌}
use Rattle.work_identifiers.specs.Forms.{is_digit_or_stop}
use Rattle.work_identifiers.proofs.Prefixes.{prefix_more, prefix_at}
use Rattle.work_identifiers.proofs.arxiv.number_length.Goals as goal

pub returns-then-not-is_digit_or_stop-clause-value : goal.returns-then-not-is_digit_or_stop-clause-value
returns-then-not-is_digit_or_stop-clause-value c =
    prefix_at is_digit_or_stop c.args.text.now c.loop-at.at c.loop-at-test.true
    (sym c.is_digit_or_stop.ensures ∙ c.if-not-is_digit_or_stop.true) c.loop-at.invariant

pub loop-at-preserved : goal.loop-at-preserved
loop-at-preserved c =
    prefix_more is_digit_or_stop c.args.text.now c.loop-at.at c.loop-at-test.true
    (sym c.is_digit_or_stop.ensures ∙ c.if-not-is_digit_or_stop.false) c.loop-at.invariant
