use Rattle.kev_read.specs.Pairs.{pairs_of}
use Rattle.rule_menus.specs.RuleMenus.{menu_by_rules}
use Rattle.rule_menus.proofs.SameReplies.{reply_is_page, same_reply}
use Rattle.rule_menus.proofs.laws.compiled_files_have_one_reply.Goals as goal

pub returns-clause-one : goal.returns-clause-one
returns-clause-one c = λ files targets others request status other reply another read read_others.
    same_reply c.replies_follow_menus.ensures targets others
    (λ pairs. c.compiled_files_have_one_menu.ensures.one files targets others pairs read read_others) c.one_route.ensures request status other reply another

pub returns-clause-page : goal.returns-clause-page
returns-clause-page c = λ files targets by_rules request query page without_body status reply read of_files routed accepted has.
    let meant = c.compiled_files_have_one_menu.ensures.meant files targets by_rules (pairs_of query) read of_files in
    reply_is_page c.one_route.ensures targets request page query without_body (menu_by_rules by_rules (pairs_of query)) status reply meant routed accepted has
