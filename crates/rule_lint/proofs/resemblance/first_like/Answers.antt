use Rattle.std.proofs.Common.{sym, ◌∙◌}
use Rattle.text_model.proofs.Lists.{find_here, find_later}
use Rattle.rule_lint.specs.Names.{resembles}
use Rattle.rule_lint.proofs.resemblance.first_like.Goals as goal

pub returns-then-resembles : goal.returns-then-resembles
returns-then-resembles c =
    sym (find_here (resembles c.args.name.now) c.args.names.now c.loop-other.other-index _ c.loop-other-test.true c.loop-other.invariant
    (sym c.resembles.ensures ∙ c.if-resembles.true))

pub loop-other-preserved : goal.loop-other-preserved
loop-other-preserved c =
    find_later (resembles c.args.name.now) c.args.names.now c.loop-other.other-index _ c.loop-other-test.true c.loop-other.invariant
    (sym c.resembles.ensures ∙ c.if-resembles.false)
