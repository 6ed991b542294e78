use Rattle.std.proofs.Common.{sym}
use Rattle.std.specs.Str.{bytes_eq}
use Rattle.openurl_reading.proofs.Walks.{any_later, any_here, any_none}
use Rattle.openurl_reading.proofs.keys.is_one_of.Goals as goal

pub returns-then-eq : goal.returns-then-eq
returns-then-eq c =
    any_here (λ one. bytes_eq one c.args.text.now) _ _ _ _ c.loop-one-test.true (sym c.if-eq.ensures) c.loop-one.invariant

pub loop-one-preserved : goal.loop-one-preserved
loop-one-preserved c =
    any_later (λ one. bytes_eq one c.args.text.now) _ _ _ _ c.loop-one-test.true (sym c.if-eq.ensures) c.loop-one.invariant

pub returns : goal.returns
returns c = any_none (λ one. bytes_eq one c.args.text.now) _ _ _ c.loop-one-test.false c.loop-one.invariant
