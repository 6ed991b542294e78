use Rattle.std.proofs.Common.{sym, ◌∙◌}
use Rattle.work_identifiers.specs.Addresses.{is_in_word}
use Rattle.work_identifiers.proofs.Prefixes.{prefix_more, prefix_at}
use Rattle.work_identifiers.proofs.addresses.word_length.Goals as goal

pub returns-then-not-is_in_word-clause-value : goal.returns-then-not-is_in_word-clause-value
returns-then-not-is_in_word-clause-value c =
    prefix_at is_in_word c.args.text.now c.loop-at.at c.loop-at-test.true (sym c.is_in_word.ensures ∙ c.if-not-is_in_word.true) c.loop-at.invariant

pub loop-at-preserved : goal.loop-at-preserved
loop-at-preserved c =
    prefix_more is_in_word c.args.text.now c.loop-at.at c.loop-at-test.true (sym c.is_in_word.ensures ∙ c.if-not-is_in_word.false) c.loop-at.invariant
