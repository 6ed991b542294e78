use Rattle.std.proofs.Common.{◌≡◌, drop}
use Rattle.work_identifiers.specs.Addresses as spec
use Rattle.work_identifiers.proofs.addresses.first_doi.Given as goal

abbrev pub invariant-loop-at : goal.invariant-loop-at
invariant-loop-at l = spec.first_doi (drop l.at l.address) ≡ spec.first_doi l.address
