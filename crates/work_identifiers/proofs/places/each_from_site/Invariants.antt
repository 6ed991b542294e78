use Rattle.std.proofs.Common.{◌≡◌, map, take}
use Rattle.text_model.specs.Texts.{texts_of}
use Rattle.work_identifiers.specs.Places as spec
use Rattle.work_identifiers.proofs.places.each_from_site.Given as goal

abbrev pub invariant-loop-text : goal.invariant-loop-text
invariant-loop-text l = texts_of l.sites.items ≡ map spec.from_site (texts_of (take l.text-index l.texts))
