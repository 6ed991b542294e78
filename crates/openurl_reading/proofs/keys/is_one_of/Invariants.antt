use Rattle.std.proofs.Common.{◌≡◌, drop}
use Rattle.text_model.specs.Texts.{texts_of}
use Rattle.openurl_reading.specs.Keys as spec
use Rattle.openurl_reading.proofs.keys.is_one_of.Given as goal

abbrev pub invariant-loop-one : goal.invariant-loop-one
invariant-loop-one l = spec.is_one_of (texts_of (drop l.one-index l.texts)) l.text ≡ spec.is_one_of (texts_of l.texts) l.text
