use Rattle.registry.specs.Entries.{menu_of}
use Rattle.menu_laws.proofs.MenuLines.{text_links}
use Rattle.menu_laws.proofs.ShareLemmas.{sound_links}
use Rattle.menu_laws.proofs.text.text_is_read_as_its_links.Goals as goal

pub returns-clause-menu : goal.returns-clause-menu
returns-clause-menu c = text_links

pub returns-clause-registry : goal.returns-clause-registry
returns-clause-registry c = λ targets pairs known.
    text_links (menu_of targets pairs) (sound_links (menu_of targets pairs) (c.menus_are_sound.ensures targets pairs known))
