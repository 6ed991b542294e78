use Rattle.std.proofs.Common.{arith, sym, ap, ◌∙◌, subst}
use Rattle.std.proofs.lemmas.Grind.{common_steps}
use Rattle.menu.specs.Links.{is_link}
use Rattle.menu.specs.declared.entry.Resolution.{Resolution}
use Rattle.rule_explanation.specs.Explanation.{explanation}
use Rattle.rule_menus.specs.Explanations.{EndAs, lines_of}
use Rattle.rule_menus.proofs.Explained.{explanation_ends, found_is_link, menu_explained}
use Rattle.rule_menus.proofs.RowEnds.{LawsOfRows}
use Rattle.rule_menus.proofs.laws.explanations_agree_with_menus.Goals as goal

pub returns-clause-found : goal.returns-clause-found
returns-clause-found c = λ target pairs sound within.
    sym (ap is_link (c.menus_are_what_rules_mean.ensures.resolution target pairs sound) ∙ found_is_link target pairs within)

pub returns-clause-last : goal.returns-clause-last
returns-clause-last c = λ target pairs sound within.
    let laws : LawsOfRows = grind (arith, common_steps) in
    let P : Resolution → Type 0 = λ r. EndAs (lines_of (explanation target.rules target.table pairs)) r in
    subst P (sym (c.menus_are_what_rules_mean.ensures.resolution target pairs sound)) (explanation_ends target pairs laws sound within)

pub returns-clause-menu : goal.returns-clause-menu
returns-clause-menu c = λ targets pairs sound within. menu_explained pairs (λ target. returns-clause-last c target pairs) targets sound within
