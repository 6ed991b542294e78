use Rattle.std.proofs.Common.{◌≡◌, map, take}
use Rattle.text_model.specs.Texts.{texts_of}
use Rattle.work_identifiers.specs.Places as spec
use Rattle.work_identifiers.proofs.places.segments.Given as goal

abbrev pub invariant-loop-rest : goal.invariant-loop-rest
invariant-loop-rest l = texts_of l.segments.items ≡ map (spec.segment l.namespace) (texts_of (take l.rest-index l.rests))
