use Rattle.retraction_remarks.proofs.WholeTitles.{is_filled}
use Rattle.retraction_remarks.proofs.laws.titles_are_not_blank.Goals as goal

pub returns : goal.returns
returns c = is_filled
