use Rattle.text_model.proofs.Written.{length-written}
use Rattle.text_model.proofs.laws.writing_at_most_triples.Goals as goal

pub returns : goal.returns
returns c = length-written
