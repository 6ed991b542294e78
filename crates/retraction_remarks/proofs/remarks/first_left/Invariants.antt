use Rattle.std.proofs.Common.{◌≡◌, drop}
use Rattle.retraction_remarks.specs.Titles as spec
use Rattle.retraction_remarks.proofs.remarks.first_left.Given as goal

abbrev pub invariant-loop-form : goal.invariant-loop-form
invariant-loop-form l = spec.first_left (drop l.form-index l.forms) l.title ≡ spec.first_left l.forms l.title
