use Rattle.retraction_remarks.proofs.WholeTitles.{is_part, is_short, is_utf8}
use Rattle.retraction_remarks.proofs.laws.titles_are_parts.Goals as goal

pub returns-clause-part : goal.returns-clause-part
returns-clause-part c = is_part

pub returns-clause-bounded : goal.returns-clause-bounded
returns-clause-bounded c = is_short

pub returns-clause-utf8 : goal.returns-clause-utf8
returns-clause-utf8 c = is_utf8
