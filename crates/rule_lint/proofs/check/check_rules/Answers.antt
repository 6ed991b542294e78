use Rattle.std.proofs.Common.{sym, ap, ◌∙◌, arith}
use Rattle.std.specs.List.{flat_map, enumerate_from}
use Rattle.std.proofs.lemmas.List.FromFn.{length-enumerate_from}
use Rattle.rule_lint.specs.Findings.{in_rule}
use Rattle.rule_lint.proofs.ListSteps.{numbered_at, numbered_all}
use Rattle.rule_lint.proofs.AddsLemmas.{adds_as, adds_step}
use Rattle.rule_lint.proofs.check.check_rules.Goals as goal

pub loop-k-preserved : goal.loop-k-preserved
loop-k-preserved c =
    let target = c.args.target.now in
    let found = in_rule target.rules.now target.table.now in
    let rules = c.args.rules.now in
    let rule = c.index-rules-k.result in
    adds_step found (enumerate_from 0 rules) c.loop-k.k (0, rule) _ _ _
    (omega (arith, length-enumerate_from 0 rules, c.loop-k-test.true)) c.loop-k.invariant
    (adds_as _ _ _ _ (sym (ap found (numbered_at rules c.loop-k.k rule c.loop-k-test.true c.index-rules-k.is))) c.in_ok-check_rule.ensures)

pub returns : goal.returns
returns c =
    let target = c.args.target.now in
    adds_as _ _ _ _
    (ap (flat_map (in_rule target.rules.now target.table.now))
    (numbered_all c.args.rules.now c.loop-k.k c.loop-k-test.false ∙ ap (enumerate_from 0) c.requires))
    c.loop-k.invariant
