use Rattle.std.proofs.Common.{ap, sym, ◌∙◌}
use Rattle.openurl_reading.specs.Sources.{ends_name}
use Rattle.openurl_reading.proofs.Ends.{end_here, end_later}
use Rattle.openurl_reading.proofs.sources.first_end.Goals as goal

pub returns-then-ends_name-clause-value : goal.returns-then-ends_name-clause-value
returns-then-ends_name-clause-value c =
    end_here c.args.text.now c.loop-count.count _ c.loop-count-test.true
    (ap ends_name (sym c.split_at.ensures.back) ∙ sym c.ends_name.ensures ∙ c.if-ends_name.true) c.loop-count.invariant

pub loop-count-preserved : goal.loop-count-preserved
loop-count-preserved c =
    end_later c.args.text.now c.loop-count.count _ c.loop-count-test.true
    (ap ends_name (sym c.split_at.ensures.back) ∙ sym c.ends_name.ensures ∙ c.if-ends_name.false) c.loop-count.invariant
