use Rattle.work_identifiers.proofs.NumberLaws.{urn_names, spelled_alone}
use Rattle.work_identifiers.proofs.laws.numbers_are_named_by_their_urns.Goals as goal

pub returns-clause-named : goal.returns-clause-named
returns-clause-named c = urn_names

pub returns-clause-alone : goal.returns-clause-alone
returns-clause-alone c = spelled_alone
