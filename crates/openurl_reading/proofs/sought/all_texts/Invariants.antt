use Rattle.std.proofs.Common.{◌≡◌, take}
use Rattle.std.specs.List.{flat_map}
use Rattle.text_model.specs.Texts.{texts_of}
use Rattle.openurl_reading.specs.Sought as spec
use Rattle.openurl_reading.proofs.sought.all_texts.Given as goal

abbrev pub invariant-loop-key : goal.invariant-loop-key
invariant-loop-key l = l.texts.items ≡ flat_map (spec.sought_under l.pairs) (texts_of (take l.key-index l.key-items))
