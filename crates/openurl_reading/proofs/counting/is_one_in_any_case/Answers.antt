use Rattle.std.proofs.Common.{sym, ◌∙◌}
use Rattle.std.specs.Str.{str_eq_ignore_ascii_case}
use Rattle.openurl_reading.proofs.Walks.{any_later, any_here, any_none}
use Rattle.openurl_reading.proofs.counting.is_one_in_any_case.Goals as goal

pub returns-then-is_same : goal.returns-then-is_same
returns-then-is_same c =
    any_here (λ one. str_eq_ignore_ascii_case one c.args.text.now) _ _ _ _ c.loop-one-test.true
    (sym c.is_same.ensures ∙ c.if-is_same.true) c.loop-one.invariant

pub loop-one-preserved : goal.loop-one-preserved
loop-one-preserved c =
    any_later (λ one. str_eq_ignore_ascii_case one c.args.text.now) _ _ _ _ c.loop-one-test.true
    (sym c.is_same.ensures ∙ c.if-is_same.false) c.loop-one.invariant

pub returns : goal.returns
returns c = any_none (λ one. str_eq_ignore_ascii_case one c.args.text.now) _ _ _ c.loop-one-test.false c.loop-one.invariant
