use Rattle.retraction_remarks.proofs.WholeTitles.{notice_stays}
use Rattle.retraction_remarks.proofs.laws.notices_stay.Goals as goal

pub returns : goal.returns
returns c = notice_stays
