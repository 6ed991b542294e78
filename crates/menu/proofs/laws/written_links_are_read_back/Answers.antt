use Rattle.menu.proofs.ReadingLemmas.{escaped-read_back}
use Rattle.menu.proofs.laws.written_links_are_read_back.Goals as goal

pub returns : goal.returns
returns c = escaped-read_back
