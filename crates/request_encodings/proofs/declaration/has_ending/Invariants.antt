use Rattle.std.proofs.Common.{◌≡◌, drop}
use Rattle.text_model.specs.Texts.{texts_of}
use Rattle.request_encodings.specs.Declarations.{has_ending}
use Rattle.request_encodings.proofs.declaration.has_ending.Given as goal

abbrev pub invariant-loop-ending : goal.invariant-loop-ending
invariant-loop-ending l = has_ending (texts_of (drop l.ending-index l.endings)) l.name ≡ has_ending (texts_of l.endings) l.name
