use Rattle.latex_text.proofs.Reading.{all_free, once}
use Rattle.latex_text.proofs.laws.latex_is_read_once.Goals as goal

pub returns-clause-free : goal.returns-clause-free
returns-clause-free c = all_free

pub returns-clause-once : goal.returns-clause-once
returns-clause-once c = once
