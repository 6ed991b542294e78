-- One more rule.
use Rattle.rule_explanation.specs.Explanation.{failing_rule_lines}
use Rattle.rule_explanation.proofs.PlaceLemmas.{pieces_more}
use Rattle.rule_explanation.proofs.failing.push_numbered_rules.Goals as goal

pub loop-i-preserved : goal.loop-i-preserved
loop-i-preserved g c =
    let line = failing_rule_lines (g.V.Variables.look c.args.variables.now) in
    pieces_more line _ c.args.rules.now c.loop-i.i c.index-rules-i.result _ _ c.loop-i-test.true c.index-rules-i.is
    c.loop-i.invariant c.in_ok-push_failing_rule.ensures
