use Rattle.title_markup.proofs.TagsGo.{tag_goes, italic_goes, paragraph_goes}
use Rattle.title_markup.proofs.laws.tags_go.Goals as goal

pub returns-clause-anywhere : goal.returns-clause-anywhere
returns-clause-anywhere c = tag_goes

pub returns-clause-italic : goal.returns-clause-italic
returns-clause-italic c = italic_goes

pub returns-clause-paragraph : goal.returns-clause-paragraph
returns-clause-paragraph c = paragraph_goes
