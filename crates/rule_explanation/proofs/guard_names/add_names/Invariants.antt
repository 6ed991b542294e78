use Rattle.std.proofs.Common.{◌≡◌}
use Rattle.rule_explanation.proofs.guard_names.add_names.Given as goal

-- the keys stay
abbrev pub invariant-loop-guard : goal.invariant-loop-guard
invariant-loop-guard l = l.names.keys ≡ l.fn.names.keys

abbrev pub invariant-loop-name : goal.invariant-loop-name
invariant-loop-name l = l.names.keys ≡ l.fn.names.keys
