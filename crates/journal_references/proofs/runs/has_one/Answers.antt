use Rattle.std.proofs.Common.{sym, ◌∙◌}
use Rattle.journal_references.specs.Runs.{has}
use Rattle.journal_references.proofs.Prefixes.{other_later, one_passes, none_passes}
use Rattle.journal_references.proofs.runs.has_one.Goals as goal

pub returns-then-has : goal.returns-then-has
returns-then-has c =
    one_passes (has c.args.class) c.args.text.now c.loop-byte.byte-index _ c.loop-byte-test.true (sym c.has.ensures ∙ c.if-has.true)
    c.loop-byte.invariant

pub loop-byte-preserved : goal.loop-byte-preserved
loop-byte-preserved c =
    other_later (has c.args.class) c.args.text.now c.loop-byte.byte-index _ c.loop-byte-test.true (sym c.has.ensures ∙ c.if-has.false)
    c.loop-byte.invariant

pub returns : goal.returns
returns c = none_passes (has c.args.class) c.args.text.now c.loop-byte.byte-index _ c.loop-byte-test.false c.loop-byte.invariant
