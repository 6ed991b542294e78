use Rattle.std.proofs.Common.{sym, ◌∙◌}
use Rattle.rule_menus.proofs.FirstLinks.{first_link}
use Rattle.rule_menus.proofs.laws.first_web_link_is_chosen.Goals as goal

pub returns : goal.returns
returns c = λ target pairs row link sound.
    let same = c.menus_are_what_rules_mean.ensures.resolution target pairs sound in
    let first = first_link target pairs row link in
    (λ is. first.0 (sym same ∙ is), λ h. same ∙ first.1 h)
