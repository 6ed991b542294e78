use Rattle.std.proofs.Common.{sym, ◌∙◌}
use Rattle.work_identifiers.specs.Addresses.{is_no_closer}
use Rattle.work_identifiers.proofs.Prefixes.{prefix_more, prefix_at}
use Rattle.work_identifiers.proofs.addresses.closed_length.Goals as goal

pub returns-then-not-is_no_closer-clause-value : goal.returns-then-not-is_no_closer-clause-value
returns-then-not-is_no_closer-clause-value c =
    prefix_at is_no_closer c.args.text.now c.loop-at.at c.loop-at-test.true (sym c.is_no_closer.ensures ∙ c.if-not-is_no_closer.true) c.loop-at.invariant

pub loop-at-preserved : goal.loop-at-preserved
loop-at-preserved c =
    prefix_more is_no_closer c.args.text.now c.loop-at.at c.loop-at-test.true (sym c.is_no_closer.ensures ∙ c.if-not-is_no_closer.false) c.loop-at.invariant
