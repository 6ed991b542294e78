use Rattle.menu.proofs.OneReading.{one_reading_of_page}
use Rattle.menu.proofs.PageLemmas.{page-tokens, page-links}
use Rattle.menu.proofs.laws.pages_are_read_as_their_links.Goals as goal

pub returns-clause-one : goal.returns-clause-one
returns-clause-one c = one_reading_of_page

pub returns-clause-page : goal.returns-clause-page
returns-clause-page c = page-tokens

pub returns-clause-links : goal.returns-clause-links
returns-clause-links c = page-links
