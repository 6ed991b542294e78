-- The hosts of the links of a menu.
use Rattle.std.specs.Prelude.{◌≡◌, ℕ, List, false, Contains}
use Rattle.text_model.specs.Texts.{Text}
use Rattle.kev_read.specs.Pairs.{KeyValue}
use Rattle.menu.specs.Links.{NamedLink}
use Rattle.menu.specs.Entries.{MenuEntry}
use Rattle.menu.specs.declared.entry.Resolution.TheVariants.{Link}
use Rattle.lint_laws.specs.RowLinks.{HasHostOfRow, has_open_hosts}
use Rattle.rule_menus.specs.FirstLinks.{IsFirstWebLink}
use Rattle.rule_menus.specs.RuleMenus.{RuleTarget}

-- `lint` finds nothing about the hosts of the target's links
abbrev pub HasClosedHosts : RuleTarget → Type 0
HasClosedHosts target = has_open_hosts target.rules target.table ≡ false

-- if it finds nothing, and the entry of the target has a link, the rules give this link on the entry's row, which decides the link's host
abbrev pub HasHostOfItsRow : List KeyValue → RuleTarget → MenuEntry → Type 0
HasHostOfItsRow pairs target entry =
    HasClosedHosts target → (row : ℕ) (link : Text) → entry.resolution ≡ Link row link → HasHostOfRow target.rules target.table row pairs link

-- one of these targets has the name; the first row that matches and on which its rules mean a web link gives this link, and decides its host
pub record HasHostOfFirstRow (targets : List RuleTarget) (pairs : List KeyValue) (named : NamedLink) : Type 0 where
  pub target : RuleTarget
  pub among : Contains targets target
  pub name : named.name ≡ target.name
  pub row : ℕ
  pub first : IsFirstWebLink target pairs row named.link
  pub host : HasHostOfRow target.rules target.table row pairs named.link
