use Rattle.std.proofs.Common.{◌≡◌, drop}
use Rattle.retraction_remarks.specs.Remarks as spec
use Rattle.retraction_remarks.proofs.ends.closes_later.Given as goal

abbrev pub invariant-loop-at : goal.invariant-loop-at
invariant-loop-at l = spec.closes_later (drop l.at l.text) ≡ spec.closes_later l.text
