use Rattle.std.proofs.Common.{◌≡◌, ◌++◌, drop}
use Rattle.latex_text.specs.Places as spec
use Rattle.latex_text.specs.declared.places.Place.TheVariants.{Start}
use Rattle.latex_text.proofs.places.places_in.Given as goal

abbrev pub invariant-loop-byte : goal.invariant-loop-byte
invariant-loop-byte l = l.places.items ++ spec.places l.place (drop l.byte-index l.text) ≡ spec.places Start l.text
