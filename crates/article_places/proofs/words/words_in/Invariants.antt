use Rattle.std.proofs.Common.{◌≡◌, take}
use Rattle.std.specs.List.{flat_map}
use Rattle.text_model.specs.Texts.{texts_of}
use Rattle.article_places.specs.Words.{apart}
use Rattle.article_places.proofs.words.words_in.Given as goal

abbrev pub invariant-loop-part : goal.invariant-loop-part
invariant-loop-part l = texts_of l.words.items ≡ flat_map apart (texts_of (take l.part-index l.part-items))
