use Rattle.std.proofs.Common.{◌≡◌, drop}
use Rattle.text_model.specs.Texts.{texts_of}
use Rattle.title_markup.specs.References as spec
use Rattle.title_markup.proofs.references.listed.Given as goal

abbrev pub invariant-loop-other : goal.invariant-loop-other
invariant-loop-other l =
    spec.listed (texts_of (drop l.other-index l.names)) l.rest l.name ≡ spec.listed (texts_of l.names) l.characters l.name
