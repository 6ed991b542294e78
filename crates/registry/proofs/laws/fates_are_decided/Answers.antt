use Rattle.registry.proofs.Fates.{over_budget, within_budget}
use Rattle.registry.proofs.laws.fates_are_decided.Goals as goal

pub returns-clause-over : goal.returns-clause-over
returns-clause-over c = over_budget

pub returns-clause-ran : goal.returns-clause-ran
returns-clause-ran c = λ code env outcome within has. within_budget code env outcome within ((c.course_is_decided.ensures.outcome code env outcome).0 has)
