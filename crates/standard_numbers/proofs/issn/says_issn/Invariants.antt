use Rattle.std.proofs.Common.{◌≡◌, drop}
use Rattle.standard_numbers.specs.Issn as spec
use Rattle.standard_numbers.proofs.issn.says_issn.Given as goal

abbrev pub invariant-loop-at : goal.invariant-loop-at
invariant-loop-at l = spec.says_issn (drop l.at l.text) ≡ spec.says_issn l.text
