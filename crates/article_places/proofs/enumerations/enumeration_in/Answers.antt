use Rattle.article_places.proofs.AsciiParts.{first_of_numbers, issue_of_numbers, supplement_of_numbers}
use Rattle.article_places.proofs.enumerations.enumeration_in.Goals as goal

pub returns-clause-first_ascii : goal.returns-clause-first_ascii
returns-clause-first_ascii c = first_of_numbers c.in_ok-found.found c.args.text.now c.in_ok-found.ensures

pub returns-clause-issue_ascii : goal.returns-clause-issue_ascii
returns-clause-issue_ascii c = issue_of_numbers c.in_ok-found.found c.args.text.now c.in_ok-found.ensures

pub returns-clause-supplement_ascii : goal.returns-clause-supplement_ascii
returns-clause-supplement_ascii c = supplement_of_numbers c.in_ok-found.found c.args.text.now c.in_ok-found.ensures
