use Rattle.text_model.proofs.Cuts.{joined-items}
use Rattle.text_model.proofs.laws.items_join_to_their_text.Goals as goal

pub returns : goal.returns
returns c = joined-items
