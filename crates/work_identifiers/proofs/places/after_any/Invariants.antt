use Rattle.std.proofs.Common.{◌≡◌, take}
use Rattle.text_model.specs.Texts.{texts_of}
use Rattle.work_identifiers.specs.Places as spec
use Rattle.work_identifiers.proofs.places.after_any.Given as goal

abbrev pub invariant-loop-text : goal.invariant-loop-text
invariant-loop-text l = texts_of l.rests.items ≡ spec.after_any (texts_of l.beginnings) (texts_of (take l.text-index l.texts))
