use Rattle.std.proofs.Common.{List, ◌++◌, codes, length, ap, sym, ◌∙◌}
use Rattle.std.specs.Prelude.{◌==◌, if◌then◌else◌}
use Rattle.std.specs.List.{flat_map}
use Rattle.menu.specs.Links.{NamedLink, links}
use Rattle.menu.specs.Printed.{html_item, text_line}
use Rattle.registry.specs.Entries.{menu_of}
use Rattle.menu_laws.proofs.UpdatedTargets.{kept_menu, rows_added, same_links}
use Rattle.menu_laws.proofs.updates.other_rows_change_numbers_alone.Goals as goal

pub returns-clause-menu : goal.returns-clause-menu
returns-clause-menu c = λ old new pairs all. kept_menu pairs old new all

pub returns-clause-text : goal.returns-clause-text
returns-clause-text c = λ old new pairs all.
    let same = sym (same_links (menu_of new pairs)) ∙ ap links (kept_menu pairs old new all) ∙ same_links (menu_of old pairs) in
    ap (flat_map text_line) same

pub returns-clause-html : goal.returns-clause-html
returns-clause-html c = λ old new pairs all.
    let same = sym (same_links (menu_of new pairs)) ∙ ap links (kept_menu pairs old new all) ∙ same_links (menu_of old pairs) in
    ap (λ (ls : List NamedLink). codes "<!DOCTYPE html>\n<title>Links</title>\n"
    ++ (if length ls == 0 then codes "<p>No links</p>\n" else codes "<ul>\n" ++ (flat_map html_item ls ++ codes "</ul>\n"))) same

pub returns-clause-added : goal.returns-clause-added
returns-clause-added c = rows_added
