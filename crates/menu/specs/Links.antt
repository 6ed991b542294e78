-- The links of a menu: those of the targets that have one, in the order of the targets.
use Rattle.std.specs.Prelude.{Bool, true, false, ◌==◌, List, length, Option, Some, None}
use Rattle.std.specs.List.{filter_map}
use Rattle.text_model.specs.Texts.{Text}
use Rattle.menu.specs.Entries.{MenuEntry}
use Rattle.menu.specs.declared.entry.Resolution.{Resolution}
use Rattle.menu.specs.declared.entry.Resolution.TheVariants as resolution

-- a link, and the name of the target that gave it
pub record NamedLink : Type 0 where
  pub name : Text
  pub link : Text

abbrev pub link_under : Text → Resolution → Option NamedLink
link_under name (resolution.Link row link) = Some (record { name = name; link = link })
link_under name resolution.NoRow = None
link_under name resolution.NoLink = None
link_under name resolution.NotAWebLink = None
link_under name (resolution.OverBudget bytes) = None

abbrev pub named_link : MenuEntry → Option NamedLink
named_link entry = link_under entry.name entry.resolution

abbrev pub links : List MenuEntry → List NamedLink
links menu = filter_map named_link menu

abbrev pub is_link : Resolution → Bool
is_link (resolution.Link row link) = true
is_link resolution.NoRow = false
is_link resolution.NoLink = false
is_link resolution.NotAWebLink = false
is_link (resolution.OverBudget bytes) = false

abbrev pub has_link : MenuEntry → Bool
has_link entry = is_link entry.resolution

-- no target has a link
abbrev pub is_empty : List MenuEntry → Bool
is_empty menu = length (links menu) == 0
