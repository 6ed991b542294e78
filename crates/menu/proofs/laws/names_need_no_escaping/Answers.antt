use Rattle.menu.proofs.ContainedLemmas.{name-plain}
use Rattle.menu.proofs.laws.names_need_no_escaping.Goals as goal

pub returns : goal.returns
returns c = name-plain
