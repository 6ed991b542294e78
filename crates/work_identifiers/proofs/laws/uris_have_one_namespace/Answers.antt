use Rattle.work_identifiers.proofs.FoundAgain.{no_other}
use Rattle.work_identifiers.proofs.laws.uris_have_one_namespace.Goals as goal

pub returns : goal.returns
returns c = no_other
