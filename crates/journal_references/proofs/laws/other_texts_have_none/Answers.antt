use Rattle.journal_references.proofs.ReferenceLaws.{long_none, digitless_none}
use Rattle.journal_references.proofs.laws.other_texts_have_none.Goals as goal

pub returns-clause-long : goal.returns-clause-long
returns-clause-long c = long_none

pub returns-clause-digitless : goal.returns-clause-digitless
returns-clause-digitless c = digitless_none
