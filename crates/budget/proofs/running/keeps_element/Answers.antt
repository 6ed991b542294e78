use Rattle.std.proofs.Common.{◌≡◌, ◌-◌, arith}
use Rattle.budget.proofs.Kept.{kept_none, kept_more, kept_until}
use Rattle.budget.proofs.running.keeps_element.Goals as goal

pub loop-place-init : goal.loop-place-init
loop-place-init c =
    let none : c.args.body.start - c.args.body.start ≡ 0 = omega arith in
    rw none (kept_none c.args.code.now c.args.body.element c.args.body.start)

pub returns-then-writes : goal.returns-then-writes
returns-then-writes c = grind (arith, kept_until, c.reading.ensures, c.if-writes.true)

pub loop-place-preserved : goal.loop-place-preserved
loop-place-preserved c = grind (arith, kept_more, c.writes.ensures, c.reading.ensures, c.if-writes.false)
