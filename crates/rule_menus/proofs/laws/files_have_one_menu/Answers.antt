use Rattle.std.proofs.Common.{sym, ap, ◌∙◌}
use Rattle.http_exchange.specs.RouteReplies.{page_text}
use Rattle.rule_menus.proofs.SameFiles.{one_menu, rules_sound}
use Rattle.rule_menus.proofs.laws.files_have_one_menu.Goals as goal

pub returns-clause-one : goal.returns-clause-one
returns-clause-one c = λ files targets others pairs a b.
    let meant = c.menus_are_what_rules_mean.ensures.menu in
    meant targets pairs (rules_sound files targets a)
    ∙ one_menu c.one_rule_set.ensures files targets others pairs a b
    ∙ sym (meant others pairs (rules_sound files others b))

pub returns-clause-meant : goal.returns-clause-meant
returns-clause-meant c = λ files targets pairs a. c.menus_are_what_rules_mean.ensures.menu targets pairs (rules_sound files targets a)

pub returns-clause-pages : goal.returns-clause-pages
returns-clause-pages c = λ files targets others pairs page a b. ap (page_text page) (returns-clause-one c files targets others pairs a b)
