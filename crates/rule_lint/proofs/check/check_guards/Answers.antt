use Rattle.std.proofs.Common.{sym, ap, arith}
use Rattle.std.specs.List.{flat_map, enumerate_from}
use Rattle.std.proofs.lemmas.List.FromFn.{length-enumerate_from}
use Rattle.rule_lint.specs.Findings.{in_numbered_guard}
use Rattle.rule_lint.proofs.ListSteps.{numbered_at, numbered_all}
use Rattle.rule_lint.proofs.AddsLemmas.{adds_as, adds_step}
use Rattle.rule_lint.proofs.check.check_guards.Goals as goal

pub loop-i-preserved : goal.loop-i-preserved
loop-i-preserved c =
    let target = c.args.target.now in
    let found = in_numbered_guard target.rules.now target.table.now c.args.rule in
    let guards = c.args.guards.now in
    let guard = c.index-guards-i.result in
    adds_step found (enumerate_from 0 guards) c.loop-i.i (0, guard) _ _ _
    (omega (arith, length-enumerate_from 0 guards, c.loop-i-test.true)) c.loop-i.invariant
    (adds_as _ _ _ _ (sym (ap found (numbered_at guards c.loop-i.i guard c.loop-i-test.true c.index-guards-i.is))) c.in_ok-check_guard.ensures)

pub returns : goal.returns
returns c =
    let target = c.args.target.now in
    adds_as _ _ _ _
    (ap (flat_map (in_numbered_guard target.rules.now target.table.now c.args.rule)) (numbered_all c.args.guards.now c.loop-i.i c.loop-i-test.false))
    c.loop-i.invariant
