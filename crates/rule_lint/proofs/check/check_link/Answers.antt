use Rattle.std.proofs.Common.{ap, ◌∙◌}
use Rattle.std.proofs.lemmas.Result.{on_ok_weaker}
use Rattle.text_model.specs.Texts.{texts_of}
use Rattle.printed_text.proofs.Adding.{adds_both}
use Rattle.rule_lint.specs.Findings.{in_names}
use Rattle.rule_lint.proofs.AddsLemmas.{adds_as}
use Rattle.rule_lint.proofs.check.check_link.Goals as goal

pub returns : goal.returns
returns c =
    let target = c.args.target.now in
    on_ok_weaker c.check_host.result
    (λ rest. adds_both _ _ _ _ _
    (adds_as _ _ _ _ (ap (in_names target.rules.now target.table.now c.args.at) (ap texts_of c.deref.ensures.value ∙ c.in_ok-names.ensures))
    c.in_ok-check_names.ensures)
    rest)
    c.check_host.ensures
