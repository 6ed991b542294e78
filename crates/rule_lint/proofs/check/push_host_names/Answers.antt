use Rattle.std.proofs.Common.{Bor, [], ◌∷◌, ap, ◌∙◌}
use Rattle.std.specs.List.{flat_map}
use Rattle.std.proofs.lemmas.List.{take_all}
use Rattle.text_model.specs.Texts.{Text}
use Rattle.rule_lint.specs.Findings.{HostByRequest}
use Rattle.rule_lint.proofs.AddsLemmas.{adds_as, lent_each}
use Rattle.rule_lint.proofs.check.push_host_names.Goals as goal

pub returns : goal.returns
returns c =
    adds_as _ _ _ _
    (ap (flat_map (λ (y : Bor Text). HostByRequest c.args.at y.now ∷ [])) (take_all c.loop-name.name-index c.args.names.now c.loop-name-test.false)
    ∙ lent_each (HostByRequest c.args.at) c.args.names.now)
    c.loop-name.invariant
