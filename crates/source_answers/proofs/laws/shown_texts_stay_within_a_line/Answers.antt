use Rattle.source_answers.proofs.ShownTexts.{free, no_ascii}
use Rattle.source_answers.proofs.laws.shown_texts_stay_within_a_line.Goals as goal

pub returns-clause-ascii : goal.returns-clause-ascii
returns-clause-ascii c = no_ascii

pub returns-clause-others : goal.returns-clause-others
returns-clause-others c = free
