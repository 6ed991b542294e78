use Rattle.kev_read.specs.declared.read.TheConstants.{MAX_PAIRS}
use Rattle.kev_read.specs.declared.filling.TheConstants.{USUAL_PAIRS}
use Rattle.kev_read.proofs.ListMarks.{unmarked}
use Rattle.kev_read.proofs.filling.fill.Goals as goal

pub fill_marked-requires-clause-unmarked : goal.fill_marked-requires-clause-unmarked
fill_marked-requires-clause-unmarked c = λ index. unmarked USUAL_PAIRS index

pub fill_marked-requires-else-len-le-USUAL_PAIRS-clause-unmarked : goal.fill_marked-requires-else-len-le-USUAL_PAIRS-clause-unmarked
fill_marked-requires-else-len-le-USUAL_PAIRS-clause-unmarked c = λ index. unmarked MAX_PAIRS index
