use Rattle.text_model.proofs.Cuts.{cut-long}
use Rattle.text_model.proofs.laws.long_cut_keeps_all.Goals as goal

pub returns : goal.returns
returns c = cut-long
