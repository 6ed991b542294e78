-- The three texts of a menu.
use Rattle.std.specs.Prelude.{List, ◌++◌, codes, if◌then◌else◌}
use Rattle.std.specs.List.{flat_map}
use Rattle.std.specs.Fmt.{decimal}
use Rattle.text_model.specs.Texts.{Text}
use Rattle.menu.specs.Entries.{MenuEntry}
use Rattle.menu.specs.declared.entry.Resolution.{Resolution}
use Rattle.menu.specs.declared.entry.Resolution.TheVariants as resolution
use Rattle.menu.specs.Links.{NamedLink, links, is_empty}
use Rattle.menu.specs.Escaping.{escaped}

-- ---- plain text

abbrev pub text_line : NamedLink → Text
text_line l = l.name ++ (codes "\t" ++ (l.link ++ codes "\n"))

-- a line for each link
abbrev pub text : List MenuEntry → Text
text menu = flat_map text_line (links menu)

-- ---- report

abbrev pub resolution_text : Resolution → Text
resolution_text (resolution.Link row link) = codes "link " ++ decimal row
resolution_text resolution.NoRow = codes "no row"
resolution_text resolution.NoLink = codes "no link"
resolution_text resolution.NotAWebLink = codes "not a web link"
resolution_text (resolution.OverBudget bytes) = codes "over budget " ++ decimal bytes

abbrev pub report_line : MenuEntry → Text
report_line entry = entry.name ++ (codes "\t" ++ (resolution_text entry.resolution ++ codes "\n"))

-- a line for each target
abbrev pub report : List MenuEntry → Text
report menu = flat_map report_line menu

-- ---- HTML

abbrev pub html_item : NamedLink → Text
html_item l = codes "<li><a href=\"" ++ (escaped l.link ++ (codes "\">" ++ (l.name ++ codes "</a></li>\n")))

-- an item for each link
abbrev pub html_items : List MenuEntry → Text
html_items menu = flat_map html_item (links menu)

abbrev pub html_list : List MenuEntry → Text
html_list menu = codes "<ul>\n" ++ (html_items menu ++ codes "</ul>\n")

-- the list, or a paragraph if there are no links
abbrev pub html : List MenuEntry → Text
html menu =
    codes "<!DOCTYPE html>\n<title>Links</title>\n" ++ (if is_empty menu then codes "<p>No links</p>\n" else html_list menu)
