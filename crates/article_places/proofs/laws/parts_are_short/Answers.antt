use Rattle.article_places.proofs.PartLaws.{part_short, last_short}
use Rattle.article_places.proofs.laws.parts_are_short.Goals as goal

pub returns-clause-part : goal.returns-clause-part
returns-clause-part c = part_short

pub returns-clause-last : goal.returns-clause-last
returns-clause-last c = last_short
