use Rattle.commands.proofs.AnswerLemmas.{text_answered}
use Rattle.commands.proofs.source.read.Goals as goal

pub returns : goal.returns
returns c = rw c.answered.ensures (text_answered _ _ c.reading_text_of.ensures)
