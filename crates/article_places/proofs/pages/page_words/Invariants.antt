use Rattle.std.proofs.Common.{◌≡◌, take}
use Rattle.std.specs.List.{flat_map}
use Rattle.text_model.specs.Texts.{texts_of}
use Rattle.article_places.specs.Pages.{bare_word}
use Rattle.article_places.proofs.pages.page_words.Given as goal

abbrev pub invariant-loop-word : goal.invariant-loop-word
invariant-loop-word l = texts_of l.words.items ≡ flat_map bare_word (texts_of (take l.word-index l.word-items))
