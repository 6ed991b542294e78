use Rattle.written_texts.proofs.Settling.{once}
use Rattle.written_texts.proofs.laws.texts_are_read_once.Goals as goal

pub returns : goal.returns
returns c = once
