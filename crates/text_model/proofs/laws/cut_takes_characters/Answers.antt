use Rattle.text_model.proofs.CodePoints.{cut-encode_utf8_all}
use Rattle.text_model.proofs.laws.cut_takes_characters.Goals as goal

pub returns : goal.returns
returns c = cut-encode_utf8_all
