use Rattle.retraction_remarks.proofs.RemarksBefore.{colon_goes, article_goes, brackets_go}
use Rattle.retraction_remarks.proofs.laws.remarks_before_titles_go.Goals as goal

pub returns-clause-plain : goal.returns-clause-plain
returns-clause-plain c = colon_goes

pub returns-clause-work : goal.returns-clause-work
returns-clause-work c = article_goes

pub returns-clause-brackets : goal.returns-clause-brackets
returns-clause-brackets c = brackets_go
