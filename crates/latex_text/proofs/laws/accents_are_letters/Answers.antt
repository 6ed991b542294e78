use Rattle.latex_text.proofs.Accents.{bare_read, braced_read}
use Rattle.latex_text.proofs.laws.accents_are_letters.Goals as goal

pub returns-clause-bare : goal.returns-clause-bare
returns-clause-bare c = bare_read

pub returns-clause-braced : goal.returns-clause-braced
returns-clause-braced c = braced_read
