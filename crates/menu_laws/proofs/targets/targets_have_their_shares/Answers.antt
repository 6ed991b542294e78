use Rattle.std.proofs.Common.{ap, ◌∙◌}
use Rattle.registry.specs.Entries.{menu_of}
use Rattle.menu_laws.specs.Shares.{links_under}
use Rattle.menu_laws.proofs.OneByOne.{each_link, each_report, each_text}
use Rattle.menu_laws.proofs.ShareLemmas.{menu_links_under, one_after_another, report_share, sound_links, text_share}
use Rattle.menu_laws.proofs.targets.targets_have_their_shares.Goals as goal

pub returns-clause-menu : goal.returns-clause-menu
returns-clause-menu c = one_after_another

pub returns-clause-each_link : goal.returns-clause-each_link
returns-clause-each_link c = λ targets pairs. each_link pairs targets

pub returns-clause-each_text : goal.returns-clause-each_text
returns-clause-each_text c = λ targets pairs. each_text pairs targets

pub returns-clause-each_report : goal.returns-clause-each_report
returns-clause-each_report c = λ targets pairs. each_report pairs targets

pub returns-clause-text : goal.returns-clause-text
returns-clause-text c = λ targets pairs test known. text_share c.menus_are_sound.ensures test targets pairs known

pub returns-clause-report : goal.returns-clause-report
returns-clause-report c = λ targets pairs test known. report_share c.menus_are_sound.ensures test targets pairs known

pub returns-clause-page : goal.returns-clause-page
returns-clause-page c = λ targets pairs test tokens known read.
    let menu = menu_of targets pairs in
    let sound = sound_links menu (c.menus_are_sound.ensures targets pairs known) in
    ap (links_under test) (c.pages_are_read_as_their_links.ensures.links menu tokens sound read) ∙ menu_links_under test pairs targets
