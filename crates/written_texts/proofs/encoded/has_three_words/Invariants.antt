use Rattle.std.proofs.Common.{◌≡◌, length}
use Rattle.text_model.specs.Texts.{texts_of}
use Rattle.written_texts.specs.Encoded as spec
use Rattle.written_texts.proofs.encoded.has_three_words.Given as goal

abbrev pub invariant-loop-rest : goal.invariant-loop-rest
invariant-loop-rest l = spec.has_three_words (texts_of l.rest) ≡ spec.has_three_words (texts_of l.words)

abbrev pub decreases-loop-rest : goal.decreases-loop-rest
decreases-loop-rest l = length l.rest
