use Rattle.std.proofs.Common.{◌≡◌, None}
use Rattle.machine_model.specs.First.{first_below}
use Rattle.machine_model.specs.Form.{fault_at}
use Rattle.verifier.proofs.layout.Layout.first_fault.Given as goal

abbrev pub invariant-loop-place : goal.invariant-loop-place
invariant-loop-place l = first_below (fault_at l.self.code.now) l.place ≡ None
