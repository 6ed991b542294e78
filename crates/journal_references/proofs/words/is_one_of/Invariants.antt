use Rattle.std.proofs.Common.{◌≡◌, drop}
use Rattle.text_model.specs.Texts.{texts_of}
use Rattle.journal_references.specs.Words as spec
use Rattle.journal_references.proofs.words.is_one_of.Given as goal

abbrev pub invariant-loop-other : goal.invariant-loop-other
invariant-loop-other l = spec.is_one_of (texts_of (drop l.other-index l.words)) l.word ≡ spec.is_one_of (texts_of l.words) l.word
