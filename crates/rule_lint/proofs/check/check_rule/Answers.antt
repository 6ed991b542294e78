use Rattle.std.proofs.Common.{refl, sym, ap, ◌∙◌}
use Rattle.std.proofs.lemmas.Result.{on_ok_weaker}
use Rattle.printed_text.proofs.Adding.{adds_both}
use Rattle.rule_lint.specs.declared.place.Place.TheVariants as place
use Rattle.rule_lint.specs.Findings.{NeverReached, in_guards, in_link}
use Rattle.rule_lint.specs.Reach.{is_never_reached}
use Rattle.rule_lint.proofs.AddsLemmas.{adds_as, reached, unreached, warns_one}
use Rattle.rule_lint.proofs.check.check_rule.Goals as goal

pub returns-then-is_never_reached : goal.returns-then-is_never_reached
returns-then-is_never_reached c =
    let target = c.args.target.now in
    on_ok_weaker c.push_never_reached.result
    (λ t. adds_as _ _ _ _
    (unreached target.rules.now target.table.now c.args.k c.args.number c.args.rule.now c.requires.number
    (ap (λ rules. is_never_reached rules c.args.k) (sym c.rules.ensures.rules) ∙ (sym c.is_never_reached.ensures ∙ c.if-is_never_reached.true)))
    (warns_one c.args.out.now _ (NeverReached c.args.number) refl t refl))
    c.push_never_reached.ensures

pub returns : goal.returns
returns c =
    let target = c.args.target.now in
    on_ok_weaker c.check_link.result
    (λ rest. adds_as _ _ _ _
    (reached target.rules.now target.table.now c.args.k c.args.number c.args.rule.now c.requires.number
    (ap (λ rules. is_never_reached rules c.args.k) (sym c.rules.ensures.rules) ∙ (sym c.is_never_reached.ensures ∙ c.if-is_never_reached.false)))
    (adds_both _ _ _ _ _
    (adds_as _ _ _ _ (ap (in_guards target.rules.now target.table.now c.args.number) c.as_slice.ensures) c.in_ok-check_guards.ensures)
    (adds_as _ _ _ _ (ap (in_link target.rules.now target.table.now (place.Link c.args.number)) c.parts.ensures.parts) rest)))
    c.check_link.ensures
