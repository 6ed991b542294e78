use Rattle.std.proofs.Common.{◌≡◌, drop}
use Rattle.request_encodings.specs.Declarations as spec
use Rattle.request_encodings.proofs.declaration.first_named.Given as goal

abbrev pub invariant-loop-encoding : goal.invariant-loop-encoding
invariant-loop-encoding l = spec.first_named (drop l.encoding-index l.encodings) l.name ≡ spec.first_named l.encodings l.name
