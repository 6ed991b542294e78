use Rattle.work_identifiers.proofs.AddressParts.{address_doi}
use Rattle.work_identifiers.proofs.laws.dois_in_addresses_are_dois.Goals as goal

pub returns-clause-are : goal.returns-clause-are
returns-clause-are c address doi h = (address_doi address doi h).0

pub returns-clause-parts : goal.returns-clause-parts
returns-clause-parts c address doi h = (address_doi address doi h).1
