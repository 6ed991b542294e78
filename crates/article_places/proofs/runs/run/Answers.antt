use Rattle.std.proofs.Common.{sym, ◌∙◌}
use Rattle.article_places.specs.Runs.{has}
use Rattle.article_places.proofs.Prefixes.{prefix_more, prefix_at}
use Rattle.article_places.proofs.runs.run.Goals as goal

pub returns-then-not-has-clause-value : goal.returns-then-not-has-clause-value
returns-then-not-has-clause-value c =
    prefix_at (has c.args.class) c.args.text.now c.loop-at.at c.loop-at-test.true (sym c.has.ensures ∙ c.if-not-has.true) c.loop-at.invariant

pub loop-at-preserved : goal.loop-at-preserved
loop-at-preserved c =
    prefix_more (has c.args.class) c.args.text.now c.loop-at.at c.loop-at-test.true (sym c.has.ensures ∙ c.if-not-has.false) c.loop-at.invariant
