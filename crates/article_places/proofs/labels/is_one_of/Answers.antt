use Rattle.std.proofs.Common.{sym, ◌∙◌}
use Rattle.std.specs.Str.{str_eq_ignore_ascii_case}
use Rattle.article_places.proofs.Prefixes.{text_later, text_passes, no_text_passes}
use Rattle.article_places.proofs.labels.is_one_of.Goals as goal

pub returns-then-is_same : goal.returns-then-is_same
returns-then-is_same c =
    text_passes (str_eq_ignore_ascii_case c.args.word.now) _ _ _ _ c.loop-other-test.true (sym c.is_same.ensures ∙ c.if-is_same.true)
    c.loop-other.invariant

pub loop-other-preserved : goal.loop-other-preserved
loop-other-preserved c =
    text_later (str_eq_ignore_ascii_case c.args.word.now) _ _ _ _ c.loop-other-test.true (sym c.is_same.ensures ∙ c.if-is_same.false)
    c.loop-other.invariant

pub returns : goal.returns
returns c = no_text_passes (str_eq_ignore_ascii_case c.args.word.now) _ _ _ c.loop-other-test.false c.loop-other.invariant
