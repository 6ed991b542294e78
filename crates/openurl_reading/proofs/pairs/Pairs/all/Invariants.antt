use Rattle.std.proofs.Common.{◌≡◌, take}
use Rattle.text_model.specs.Texts.{texts_of}
use Rattle.kev_read.specs.Pairs as spec
use Rattle.openurl_reading.proofs.pairs.Pairs.all.Given as goal

abbrev pub invariant-loop-pair : goal.invariant-loop-pair
invariant-loop-pair l = texts_of l.values.items ≡ spec.all_of (take l.pair-index l.pair-items) l.key
