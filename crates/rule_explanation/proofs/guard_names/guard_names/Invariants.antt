use Rattle.std.proofs.Common.{◌≡◌}
use Rattle.rule_explanation.proofs.guard_names.guard_names.Given as goal

-- the names are found by these keys
abbrev pub invariant-loop-rule : goal.invariant-loop-rule
invariant-loop-rule l = l.names.keys ≡ l.fn.keys
