use Rattle.std.proofs.Common.{◌≡◌, drop}
use Rattle.text_model.specs.Texts.{texts_of}
use Rattle.article_places.specs.Labels as spec
use Rattle.article_places.proofs.labels.is_one_of.Given as goal

abbrev pub invariant-loop-other : goal.invariant-loop-other
invariant-loop-other l = spec.is_one_of (texts_of (drop l.other-index l.words)) l.word ≡ spec.is_one_of (texts_of l.words) l.word
