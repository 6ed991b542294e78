use Rattle.text_model.proofs.Cuts.{length-cut}
use Rattle.text_model.proofs.laws.cut_is_no_longer.Goals as goal

pub returns : goal.returns
returns c = length-cut
