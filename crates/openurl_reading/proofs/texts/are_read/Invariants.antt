use Rattle.std.proofs.Common.{◌≡◌, drop}
use Rattle.text_model.specs.Texts.{texts_of}
use Rattle.openurl_reading.specs.Texts as spec
use Rattle.openurl_reading.proofs.texts.are_read.Given as goal

abbrev pub invariant-loop-value : goal.invariant-loop-value
invariant-loop-value l = spec.are_read l.role (texts_of (drop l.value-index l.values)) ≡ spec.are_read l.role (texts_of l.values)
