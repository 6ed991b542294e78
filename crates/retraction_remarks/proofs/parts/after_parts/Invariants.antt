use Rattle.std.proofs.Common.{◌≡◌, drop}
use Rattle.retraction_remarks.specs.Parts as spec
use Rattle.retraction_remarks.proofs.parts.after_parts.Given as goal

abbrev pub invariant-loop-part : goal.invariant-loop-part
invariant-loop-part l = spec.after_parts (drop l.part-index l.parts) l.rest ≡ spec.after_parts l.parts l.text
