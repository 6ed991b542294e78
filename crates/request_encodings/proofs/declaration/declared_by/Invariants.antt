use Rattle.std.proofs.Common.{◌≡◌, drop}
use Rattle.text_model.specs.Texts.{texts_of}
use Rattle.request_encodings.specs.Declarations as spec
use Rattle.request_encodings.proofs.declaration.declared_by.Given as goal

abbrev pub invariant-loop-part : goal.invariant-loop-part
invariant-loop-part l = spec.declared_by (texts_of (drop l.part-index l.parts)) ≡ spec.declared_by (texts_of l.parts)
