use Rattle.retraction_remarks.proofs.Fixpoint.{free_stays}
use Rattle.retraction_remarks.proofs.WholeTitles.{wordless_stays}
use Rattle.retraction_remarks.proofs.laws.other_titles_stay.Goals as goal

pub returns-clause-free : goal.returns-clause-free
returns-clause-free c = free_stays

pub returns-clause-wordless : goal.returns-clause-wordless
returns-clause-wordless c = wordless_stays
