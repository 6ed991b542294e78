use Rattle.files_in_memory.proofs.PlacingLemmas.{as_before, for_what_is_there}
use Rattle.files_in_memory.proofs.laws.placing_fails_for_what_is_there.Goals as goal

pub returns-clause-cause : goal.returns-clause-cause
returns-clause-cause c = for_what_is_there

pub returns-clause-same : goal.returns-clause-same
returns-clause-same c = as_before
