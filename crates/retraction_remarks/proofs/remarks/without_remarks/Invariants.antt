use Rattle.std.proofs.Common.{◌≡◌, length}
use Rattle.retraction_remarks.specs.Titles as spec
use Rattle.retraction_remarks.proofs.remarks.without_remarks.Given as goal

abbrev pub invariant-loop-shorter : goal.invariant-loop-shorter
invariant-loop-shorter l = spec.without_remarks l.rest ≡ spec.without_remarks l.title

abbrev pub decreases-loop-shorter : goal.decreases-loop-shorter
decreases-loop-shorter l = length l.rest
