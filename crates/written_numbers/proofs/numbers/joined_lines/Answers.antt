use Rattle.std.proofs.Common.{◌≡◌, [], map, ap, ◌∙◌, arith}
use Rattle.std.specs.Prelude.{◌==◌}
use Rattle.std.specs.List.{fold, slice_split}
use Rattle.std.proofs.lemmas.Iterator.Consumers.{YieldsList-at, YieldsList-end}
use Rattle.std.proofs.lemmas.Iterator.Splits.{YieldsList-from_str_split}
use Rattle.text_model.specs.Texts.{texts_of}
use Rattle.written_numbers.specs.Characters.{line_feed}
use Rattle.written_numbers.specs.Numbers as spec
use Rattle.written_numbers.specs.Numbers.{joined_lines}
use Rattle.written_numbers.proofs.numbers.joined_lines.Goals as goal

-- all lines are read
pub returns : goal.returns
unfolding joined_lines
returns c =
    let yields =
    YieldsList-at c.into_iter-line-iterator.ensures.into_iter_gives
    (YieldsList-from_str_split line_feed c.args.text.now (omega arith) c.split-line-items.ensures.text c.split-line-items.ensures.has_more
    c.split-line-items.ensures.pattern) in
    let end = YieldsList-end yields c.loop-line.yielded _ c.loop-line.yielded_by _ _ c.in-None.is c.next.ensures.steps in
    let all : texts_of c.loop-line.yielded ≡ slice_split (λ b. b == line_feed) c.args.text.now = end.0 in
    c.loop-line.invariant ∙ ap (λ parts. fold spec.with_line [] (map spec.words parts)) all
