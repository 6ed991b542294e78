use Rattle.title_markup.proofs.Reading.{is_filled}
use Rattle.title_markup.proofs.laws.titles_are_not_blank.Goals as goal

pub returns : goal.returns
returns c = is_filled
