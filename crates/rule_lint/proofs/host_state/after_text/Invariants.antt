-- What is left leads from this state to the same one.
use Rattle.std.proofs.Common.{◌≡◌, drop}
use Rattle.rule_lint.specs.HostStates.{after_text}
use Rattle.rule_lint.proofs.host_state.after_text.Given as goal

abbrev pub invariant-loop-b : goal.invariant-loop-b
invariant-loop-b l = after_text l.state (drop l.b-index l.text) ≡ after_text l.initial.state l.text
