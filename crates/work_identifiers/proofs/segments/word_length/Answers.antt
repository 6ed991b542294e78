use Rattle.std.proofs.Common.{sym, ◌∙◌}
use Rattle.work_identifiers.specs.Places.{is_word_byte}
use Rattle.work_identifiers.proofs.Prefixes.{prefix_more, prefix_at}
use Rattle.work_identifiers.proofs.segments.word_length.Goals as goal

pub returns-then-not-is_word_byte-clause-value : goal.returns-then-not-is_word_byte-clause-value
returns-then-not-is_word_byte-clause-value c =
    prefix_at is_word_byte c.args.text.now c.loop-at.at c.loop-at-test.true (sym c.is_word_byte.ensures ∙ c.if-not-is_word_byte.true) c.loop-at.invariant

pub loop-at-preserved : goal.loop-at-preserved
loop-at-preserved c =
    prefix_more is_word_byte c.args.text.now c.loop-at.at c.loop-at-test.true (sym c.is_word_byte.ensures ∙ c.if-not-is_word_byte.false) c.loop-at.invariant
