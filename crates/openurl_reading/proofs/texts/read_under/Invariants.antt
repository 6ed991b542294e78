use Rattle.std.proofs.Common.{◌≡◌, take, map}
use Rattle.text_model.specs.Texts.{texts_of}
use Rattle.openurl_reading.specs.Steps.{after}
use Rattle.openurl_reading.specs.Texts.{texting}
use Rattle.openurl_reading.proofs.texts.read_under.Given as goal

abbrev pub invariant-loop-key : goal.invariant-loop-key
invariant-loop-key l = l.pairs ≡ after (map (texting l.role) (texts_of (take l.key-index l.keys))) l.initial.pairs
