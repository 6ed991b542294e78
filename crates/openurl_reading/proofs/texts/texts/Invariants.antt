use Rattle.std.proofs.Common.{◌≡◌, take, map}
use Rattle.text_model.specs.Texts.{texts_of}
use Rattle.written_texts.specs.Readings.{written}
use Rattle.openurl_reading.proofs.texts.texts.Given as goal

abbrev pub invariant-loop-value : goal.invariant-loop-value
invariant-loop-value l = l.texts.items ≡ map (written l.role) (texts_of (take l.value-index l.values))
