use Rattle.std.proofs.Common.{◌≡◌, drop}
use Rattle.text_model.specs.Texts.{texts_of}
use Rattle.article_places.specs.Pages as spec
use Rattle.article_places.proofs.pages.first_number.Given as goal

abbrev pub invariant-loop-word : goal.invariant-loop-word
invariant-loop-word l = spec.first_number (texts_of (drop l.word-index l.words)) ≡ spec.first_number (texts_of l.words)
