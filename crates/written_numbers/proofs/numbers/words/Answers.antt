use Rattle.std.proofs.Common.{◌≡◌, [], ap, ◌∙◌, arith}
use Rattle.std.specs.Prelude.{◌==◌}
use Rattle.std.specs.List.{fold, slice_split}
use Rattle.std.proofs.lemmas.Iterator.Consumers.{YieldsList-at, YieldsList-end}
use Rattle.std.proofs.lemmas.Iterator.Splits.{YieldsList-from_str_split}
use Rattle.text_model.specs.Texts.{texts_of}
use Rattle.written_numbers.specs.Characters.{space}
use Rattle.written_numbers.specs.Numbers as spec
use Rattle.written_numbers.specs.Numbers.{words}
use Rattle.written_numbers.proofs.numbers.words.Goals as goal

-- all words are read
pub returns : goal.returns
unfolding words
returns c =
    let yields =
    YieldsList-at c.into_iter-word-iterator.ensures.into_iter_gives
    (YieldsList-from_str_split space c.args.line.now (omega arith) c.split-word-items.ensures.text c.split-word-items.ensures.has_more
    c.split-word-items.ensures.pattern) in
    let end = YieldsList-end yields c.loop-word.yielded _ c.loop-word.yielded_by _ _ c.in-None.is c.next.ensures.steps in
    let all : texts_of c.loop-word.yielded ≡ slice_split (λ b. b == space) c.args.line.now = end.0 in
    c.loop-word.invariant ∙ ap (λ parts. fold spec.with_word [] parts) all
