use Rattle.latex_text.proofs.NamedLetters.{name_read_as}
use Rattle.latex_text.proofs.laws.names_are_letters.Goals as goal

pub returns : goal.returns
returns c = name_read_as
