use Rattle.article_places.proofs.NumberLaws.{first_part, issue_part, supplement_part}
use Rattle.article_places.proofs.laws.numbers_are_parts.Goals as goal

pub returns-clause-first : goal.returns-clause-first
returns-clause-first c = first_part

pub returns-clause-issue : goal.returns-clause-issue
returns-clause-issue c = issue_part

pub returns-clause-supplement : goal.returns-clause-supplement
returns-clause-supplement c = supplement_part
