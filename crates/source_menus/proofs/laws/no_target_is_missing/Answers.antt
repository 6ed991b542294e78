use Rattle.source_menus.specs.Found.{all_links}
use Rattle.source_menus.proofs.FirstOfEach.{any_same}
use Rattle.source_menus.proofs.laws.no_target_is_missing.Goals as goal

pub returns : goal.returns
returns c menus numbers pairs name = any_same name (all_links menus numbers pairs)
