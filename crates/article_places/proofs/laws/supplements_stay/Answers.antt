use Rattle.article_places.proofs.SupplementStays.{supplement_stays, supplement_stays_after}
use Rattle.article_places.proofs.laws.supplements_stay.Goals as goal

pub returns-clause-alone : goal.returns-clause-alone
returns-clause-alone c = supplement_stays

pub returns-clause-after_number : goal.returns-clause-after_number
returns-clause-after_number c = supplement_stays_after
