-- The names so far, and those of the parts that are left.
use Rattle.std.proofs.Common.{◌≡◌, ◌++◌, drop}
use Rattle.text_model.specs.Texts.{texts_of}
use Rattle.rule_lint.specs.declared.host_state.HostState.TheVariants.{Outside}
use Rattle.rule_lint.specs.Host.{after_parts, open_names_after}
use Rattle.rule_lint.proofs.target.Target.host.Given as goal

abbrev pub invariant-loop-k : goal.invariant-loop-k
invariant-loop-k l =
    let rules = l.self.rules.now in
    let table = l.self.table.now in
    let left = drop l.k l.parts in
    (texts_of l.names.items ++ open_names_after rules table l.state left ≡ open_names_after rules table Outside l.parts)
    × (after_parts rules table l.state left ≡ after_parts rules table Outside l.parts)
