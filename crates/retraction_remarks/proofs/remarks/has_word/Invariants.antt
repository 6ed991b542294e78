use Rattle.std.proofs.Common.{◌≡◌, length}
use Rattle.retraction_remarks.specs.Titles as spec
use Rattle.retraction_remarks.proofs.remarks.has_word.Given as goal

abbrev pub invariant-loop-rest : goal.invariant-loop-rest
invariant-loop-rest l = spec.has_word l.rest ≡ spec.has_word l.title

abbrev pub decreases-loop-rest : goal.decreases-loop-rest
decreases-loop-rest l = length l.rest
