use Rattle.std.proofs.Common.{ap}
use Rattle.menu.specs.Printed.{html, report, text}
use Rattle.rule_menus.proofs.Menus.{same_menu, same_resolution}
use Rattle.rule_menus.proofs.laws.menus_are_what_rules_mean.Goals as goal

pub returns-clause-resolution : goal.returns-clause-resolution
returns-clause-resolution c =
    same_resolution c.code_gives_what_rules_mean.ensures c.course_is_decided.ensures.outcome
    (λ target pairs row sound. c.unused_lists_change_no_link.ensures target pairs row sound)

pub returns-clause-menu : goal.returns-clause-menu
returns-clause-menu c = same_menu (returns-clause-resolution c)

pub returns-clause-text : goal.returns-clause-text
returns-clause-text c = λ targets pairs sound. ap text (returns-clause-menu c targets pairs sound)

pub returns-clause-report : goal.returns-clause-report
returns-clause-report c = λ targets pairs sound. ap report (returns-clause-menu c targets pairs sound)

pub returns-clause-html : goal.returns-clause-html
returns-clause-html c = λ targets pairs sound. ap html (returns-clause-menu c targets pairs sound)
