use Rattle.work_identifiers.proofs.FoundAgain.{uri_short}
use Rattle.work_identifiers.proofs.laws.uris_are_short.Goals as goal

pub returns : goal.returns
returns c = uri_short
