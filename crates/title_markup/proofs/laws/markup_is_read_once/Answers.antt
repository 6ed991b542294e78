use Rattle.title_markup.proofs.Reading.{all_free, once}
use Rattle.title_markup.proofs.laws.markup_is_read_once.Goals as goal

pub returns-clause-free : goal.returns-clause-free
returns-clause-free c = all_free

pub returns-clause-once : goal.returns-clause-once
returns-clause-once c = once
