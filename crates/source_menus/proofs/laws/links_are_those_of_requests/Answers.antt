use Rattle.source_menus.specs.Found.{all_links}
use Rattle.source_menus.proofs.OfMenus.{are_those}
use Rattle.source_menus.proofs.laws.links_are_those_of_requests.Goals as goal

pub returns : goal.returns
returns c menus numbers pairs = are_those (all_links menus numbers pairs)
