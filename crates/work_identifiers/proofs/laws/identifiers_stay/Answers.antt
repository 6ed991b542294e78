use Rattle.work_identifiers.proofs.FoundAgain.{uri_has, alone_has}
use Rattle.work_identifiers.proofs.laws.identifiers_stay.Goals as goal

pub returns-clause-named : goal.returns-clause-named
returns-clause-named c = uri_has

pub returns-clause-alone : goal.returns-clause-alone
returns-clause-alone c = alone_has
