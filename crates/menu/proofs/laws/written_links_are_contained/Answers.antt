use Rattle.menu.proofs.ContainedLemmas.{escaped-contained}
use Rattle.menu.proofs.laws.written_links_are_contained.Goals as goal

pub returns : goal.returns
returns c = escaped-contained
