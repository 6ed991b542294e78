use Rattle.std.proofs.Common.{sym, ◌∙◌}
use Rattle.std.specs.Char.{is_ascii_digit}
use Rattle.article_places.proofs.Prefixes.{other_later, one_passes, none_passes}
use Rattle.article_places.proofs.runs.has_digit.Goals as goal

pub returns-then-is_ascii_digit : goal.returns-then-is_ascii_digit
returns-then-is_ascii_digit c =
    one_passes is_ascii_digit c.args.text.now c.loop-byte.byte-index _ c.loop-byte-test.true
    (sym c.is_ascii_digit.ensures.value ∙ c.if-is_ascii_digit.true) c.loop-byte.invariant

pub loop-byte-preserved : goal.loop-byte-preserved
loop-byte-preserved c =
    other_later is_ascii_digit c.args.text.now c.loop-byte.byte-index _ c.loop-byte-test.true
    (sym c.is_ascii_digit.ensures.value ∙ c.if-is_ascii_digit.false) c.loop-byte.invariant

pub returns : goal.returns
returns c = none_passes is_ascii_digit c.args.text.now c.loop-byte.byte-index _ c.loop-byte-test.false c.loop-byte.invariant
