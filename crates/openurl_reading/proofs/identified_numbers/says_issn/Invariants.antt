use Rattle.std.proofs.Common.{◌≡◌, drop}
use Rattle.std.specs.Prelude.{codes}
use Rattle.openurl_reading.specs.IdentifiedNumbers as spec
use Rattle.openurl_reading.proofs.identified_numbers.says_issn.Given as goal

abbrev pub invariant-loop-at : goal.invariant-loop-at
invariant-loop-at l = spec.says (codes "issn") (drop l.at l.text) ≡ spec.says (codes "issn") l.text
