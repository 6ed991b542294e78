use Rattle.std.proofs.Common.{◌≡◌, take}
use Rattle.text_model.specs.Texts.{texts_of}
use Rattle.openurl_reading.proofs.old_keys.copies.Given as goal

abbrev pub invariant-loop-text : goal.invariant-loop-text
invariant-loop-text l = l.copies.items ≡ texts_of (take l.text-index l.texts)
