use Rattle.text_model.proofs.CodePoints.{code_points-encode_utf8_all}
use Rattle.text_model.proofs.laws.code_points_are_characters.Goals as goal

pub returns : goal.returns
returns c = code_points-encode_utf8_all
