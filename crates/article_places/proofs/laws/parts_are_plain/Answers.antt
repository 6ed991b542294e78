use Rattle.article_places.proofs.PlainParts.{first_plain, issue_plain, supplement_plain, page_plain, last_page_plain}
use Rattle.article_places.proofs.laws.parts_are_plain.Goals as goal

pub returns-clause-first : goal.returns-clause-first
returns-clause-first c = first_plain

pub returns-clause-issue : goal.returns-clause-issue
returns-clause-issue c = issue_plain

pub returns-clause-supplement : goal.returns-clause-supplement
returns-clause-supplement c = supplement_plain

pub returns-clause-page : goal.returns-clause-page
returns-clause-page c = page_plain

pub returns-clause-last_page : goal.returns-clause-last_page
returns-clause-last_page c = last_page_plain
