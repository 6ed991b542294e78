use Rattle.std.proofs.Common.{◌≡◌, drop}
use Rattle.text_model.specs.Texts.{texts_of}
use Rattle.work_identifiers.specs.Places as spec
use Rattle.work_identifiers.proofs.places.first_identifier.Given as goal

abbrev pub invariant-loop-text : goal.invariant-loop-text
invariant-loop-text l =
    spec.first_identifier l.namespace (texts_of (drop l.text-index l.texts)) ≡ spec.first_identifier l.namespace (texts_of l.texts)
