use Rattle.std.proofs.Common.{Bor, ap, arith, ◌∙◌}
use Rattle.std.proofs.lemmas.Grind.{common_steps}
use Rattle.std.specs.List.{flat_map}
use Rattle.std.proofs.lemmas.List.{take_all}
use Rattle.text_model.specs.Texts.{Text}
use Rattle.rule_lint.specs.Findings.{in_name}
use Rattle.rule_lint.proofs.AddsLemmas.{adds_as, lent}
use Rattle.rule_lint.proofs.check.check_names.Goals as goal

pub returns : goal.returns
returns c =
    let found = in_name c.args.target.now.rules.now c.args.target.now.table.now c.args.at in
    adds_as _ _ _ _
    (ap (flat_map (λ (y : Bor Text). found y.now)) (take_all c.loop-name.name-index c.args.names.now c.loop-name-test.false) ∙ lent found c.args.names.now)
    c.loop-name.invariant

pub loop-name-init : goal.loop-name-init
loop-name-init c = grind (arith, common_steps)

pub loop-name-preserved : goal.loop-name-preserved
loop-name-preserved c = grind (arith, common_steps)
