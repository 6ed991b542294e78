use Rattle.std.proofs.Common.{[]}
use Rattle.form_urlencoded.specs.Form.{extend_pairs}
use Rattle.query_repair.proofs.Forms.{forms_have_no_marks}
use Rattle.query_repair.proofs.Stays.{settled_stays}
use Rattle.query_repair.proofs.Unmarked.{unmarked_settled}
use Rattle.query_repair.proofs.laws.settled_queries_stay.Goals as goal

pub returns-clause-settled : goal.returns-clause-settled
returns-clause-settled c = settled_stays

pub returns-clause-unmarked : goal.returns-clause-unmarked
returns-clause-unmarked c = λ query none. settled_stays query (unmarked_settled query none)

pub returns-clause-forms : goal.returns-clause-forms
returns-clause-forms c =
    λ pairs. settled_stays (extend_pairs [] pairs) (unmarked_settled (extend_pairs [] pairs) (forms_have_no_marks pairs))
