use Rattle.written_texts.proofs.Settling.{is_utf8}
use Rattle.written_texts.proofs.laws.texts_are_utf8.Goals as goal

pub returns : goal.returns
returns c = is_utf8 c.readings_are_utf8.ensures
