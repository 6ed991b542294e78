use Rattle.std.proofs.Common.{sym, ◌∙◌}
use Rattle.article_places.specs.Runs.{has}
use Rattle.article_places.proofs.Prefixes.{each_later, one_fails, each_passes}
use Rattle.article_places.proofs.runs.are.Goals as goal

pub returns-then-not-has : goal.returns-then-not-has
returns-then-not-has c =
    one_fails (has c.args.class) c.args.text.now c.loop-byte.byte-index _ c.loop-byte-test.true (sym c.has.ensures ∙ c.if-not-has.true)
    c.loop-byte.invariant

pub loop-byte-preserved : goal.loop-byte-preserved
loop-byte-preserved c =
    each_later (has c.args.class) c.args.text.now c.loop-byte.byte-index _ c.loop-byte-test.true (sym c.has.ensures ∙ c.if-not-has.false)
    c.loop-byte.invariant

pub returns : goal.returns
returns c = each_passes (has c.args.class) c.args.text.now c.loop-byte.byte-index _ c.loop-byte-test.false c.loop-byte.invariant
