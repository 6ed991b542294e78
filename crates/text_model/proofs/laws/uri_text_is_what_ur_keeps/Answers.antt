use Rattle.text_model.proofs.Unchanged.{unchanged_by_ur}
use Rattle.text_model.proofs.laws.uri_text_is_what_ur_keeps.Goals as goal

pub returns : goal.returns
returns c = unchanged_by_ur
