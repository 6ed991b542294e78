-- One more name.
use Rattle.std.proofs.Common.{[]}
use Rattle.rule_explanation.specs.Explanation.{name_line}
use Rattle.rule_explanation.proofs.NameLemmas.{names_more}
use Rattle.rule_explanation.proofs.names.push_names.Goals as goal

pub loop-name-preserved : goal.loop-name-preserved
loop-name-preserved g c =
    names_more (name_line (g.V.Variables.look c.args.variables.now)) _ c.args.names.now c.loop-name.name-index (record { ref_ptr = (0, 0); now = [] }) _ _
    c.loop-name-test.true c.loop-name.invariant c.in_ok-push_name.ensures
