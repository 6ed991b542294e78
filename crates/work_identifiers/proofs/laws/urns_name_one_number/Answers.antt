use Rattle.work_identifiers.proofs.NumberLaws.{no_isbn, no_issn}
use Rattle.work_identifiers.proofs.laws.urns_name_one_number.Goals as goal

pub returns-clause-issn : goal.returns-clause-issn
returns-clause-issn c = no_isbn

pub returns-clause-isbn : goal.returns-clause-isbn
returns-clause-isbn c = no_issn
