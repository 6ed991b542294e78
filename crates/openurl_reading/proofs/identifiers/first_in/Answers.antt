use Rattle.std.proofs.Common.{sym, ◌∙◌}
use Rattle.openurl_reading.proofs.SoughtTexts.{in_later, in_here, in_pair}
use Rattle.openurl_reading.proofs.identifiers.first_in.Goals as goal

pub loop-text-preserved : goal.loop-text-preserved
loop-text-preserved c =
    in_later c.args.namespace _ _ _ _ c.loop-text-test.true
    (sym c.in_default.is ∙ c.in_ok-identifier.ensures.value ∙ in_pair c.args.namespace _ _ _ _ c.key.ensures c.value.ensures c.text-item.is)
    c.loop-text.invariant

pub returns-in-Some-clause-value : goal.returns-in-Some-clause-value
returns-in-Some-clause-value c =
    in_here c.args.namespace _ _ _ _ _ c.loop-text-test.true
    (sym c.in-Some.is ∙ c.in_ok-identifier.ensures.value ∙ in_pair c.args.namespace _ _ _ _ c.key.ensures c.value.ensures c.text-item.is)
    c.loop-text.invariant
