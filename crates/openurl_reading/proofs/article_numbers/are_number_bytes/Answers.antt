use Rattle.std.proofs.Common.{sym, ◌∙◌}
use Rattle.openurl_reading.specs.ArticleNumbers.{is_number_byte}
use Rattle.openurl_reading.proofs.Walks.{each_later, one_fails, each_passes}
use Rattle.openurl_reading.proofs.article_numbers.are_number_bytes.Goals as goal

pub returns-then-not-is_number_byte : goal.returns-then-not-is_number_byte
returns-then-not-is_number_byte c =
    one_fails is_number_byte c.args.text.now c.loop-byte.byte-index _ c.loop-byte-test.true
    (sym c.is_number_byte.ensures ∙ c.if-not-is_number_byte.true) c.loop-byte.invariant

pub loop-byte-preserved : goal.loop-byte-preserved
loop-byte-preserved c =
    each_later is_number_byte c.args.text.now c.loop-byte.byte-index _ c.loop-byte-test.true
    (sym c.is_number_byte.ensures ∙ c.if-not-is_number_byte.false) c.loop-byte.invariant

pub returns : goal.returns
returns c = each_passes is_number_byte c.args.text.now c.loop-byte.byte-index _ c.loop-byte-test.false c.loop-byte.invariant
