use Rattle.article_places.proofs.AsciiParts.{first_of_found, last_of_found}
use Rattle.article_places.proofs.pages.pages_in.Goals as goal

pub returns-clause-first_ascii : goal.returns-clause-first_ascii
returns-clause-first_ascii c = first_of_found c.in_ok-found.found c.args.text.now c.in_ok-found.ensures

pub returns-clause-last_ascii : goal.returns-clause-last_ascii
returns-clause-last_ascii c = last_of_found c.in_ok-found.found c.args.text.now c.in_ok-found.ensures
