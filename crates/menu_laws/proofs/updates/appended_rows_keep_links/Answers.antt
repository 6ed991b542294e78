use Rattle.menu_laws.proofs.UpdatedTargets.{extended_menu}
use Rattle.menu_laws.proofs.updates.appended_rows_keep_links.Goals as goal

pub returns : goal.returns
returns c = λ old new pairs all. extended_menu pairs old new all
