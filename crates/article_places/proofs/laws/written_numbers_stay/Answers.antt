use Rattle.article_places.proofs.WrittenNumbers.{written_stay}
use Rattle.article_places.proofs.laws.written_numbers_stay.Goals as goal

pub returns : goal.returns
returns c = written_stay
