use Rattle.article_places.proofs.PageParts.{first_part, last_from}
use Rattle.article_places.proofs.laws.pages_are_parts.Goals as goal

pub returns-clause-first : goal.returns-clause-first
returns-clause-first c = first_part

pub returns-clause-last : goal.returns-clause-last
returns-clause-last c = last_from
