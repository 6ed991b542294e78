-- What holds for every menu of a registry.
use Rattle.std.specs.Prelude.{◌≡◌, true, List, All}
use Rattle.text_model.specs.UriText.{IsUriText}
use Rattle.menu.specs.Contained.{IsTargetName}
use Rattle.menu.specs.Links.{NamedLink, links}
use Rattle.menu.specs.WebLink.{is_web_link}
use Rattle.menu.specs.Entries.{MenuEntry}

-- the name of a target, and a web link that is URI text
pub record IsMenuLink (l : NamedLink) : Type 0 where
  pub name : IsTargetName l.name
  pub web : is_web_link l.link ≡ true
  pub uri : IsUriText l.link

-- each entry has the name of a target, and each link is such a link
pub record IsSoundMenu (menu : List MenuEntry) : Type 0 where
  pub names : All (λ entry. IsTargetName entry.name) menu
  pub links : All IsMenuLink (links menu)
