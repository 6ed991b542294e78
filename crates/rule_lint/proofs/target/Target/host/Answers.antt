use Rattle.std.proofs.Common.{◌+◌, drop, arith, sym, ◌∙◌}
use Rattle.text_model.specs.Texts.{texts_of}
use Rattle.rule_lint.proofs.HostSteps.{names_step, rest_at, state_step}
use Rattle.rule_lint.proofs.target.Target.host.Goals as goal

pub loop-k-preserved : goal.loop-k-preserved
loop-k-preserved c =
    let rules = c.args.self.now.rules.now in
    let table = c.args.self.now.table.now in
    let inv = c.loop-k.invariant in
    let state = c.loop-k.state in
    let part = c.index-parts-k.result in
    let found = texts_of c.loop-k.names.items in
    let rest = drop (c.loop-k.k + 1) c.args.parts.now in
    let left = rest_at c.args.parts.now c.loop-k.k part c.loop-k-test.true c.index-parts-k.is in
    let each = c.in_ok-ends.ensures.each (c.loop-k.k + 1) c.index-is_end.result.now (omega arith) (omega (arith, c.loop-k-test.true)) in
    let ends = sym (c.index-is_end.ensures ∙ each) in
    let added = c.in_ok-add_open_names.ensures rest ends in
    let after = c.after_part-state.ensures rest ends in (
      names_step rules table found _ _ state _ part _ rest left added after inv.0,
      state_step rules table state _ _ part _ rest left after inv.1,
    )
