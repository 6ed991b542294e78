use Rattle.retraction_remarks.proofs.Fixpoint.{rest_free}
use Rattle.retraction_remarks.proofs.WholeTitles.{once}
use Rattle.retraction_remarks.proofs.laws.titles_stay.Goals as goal

pub returns-clause-free : goal.returns-clause-free
returns-clause-free c = rest_free

pub returns-clause-once : goal.returns-clause-once
returns-clause-once c = once
