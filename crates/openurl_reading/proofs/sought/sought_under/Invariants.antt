use Rattle.std.proofs.Common.{◌≡◌, take, map}
use Rattle.text_model.specs.Texts.{texts_of}
use Rattle.openurl_reading.specs.Sought as spec
use Rattle.openurl_reading.proofs.sought.sought_under.Given as goal

abbrev pub invariant-loop-value : goal.invariant-loop-value
invariant-loop-value l = l.texts.items ≡ map (spec.sought_at l.key) (texts_of (take l.value-index l.value-items))
