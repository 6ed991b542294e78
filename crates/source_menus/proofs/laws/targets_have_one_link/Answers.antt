use Rattle.source_menus.specs.Found.{all_links}
use Rattle.source_menus.proofs.FirstOfEach.{at_most_one}
use Rattle.source_menus.proofs.laws.targets_have_one_link.Goals as goal

pub returns : goal.returns
returns c menus numbers pairs name = at_most_one name (all_links menus numbers pairs)
