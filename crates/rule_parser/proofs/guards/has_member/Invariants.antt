-- No member so far is the text.
use Rattle.std.proofs.Common.{◌≡◌, false, take}
use Rattle.environment_model.specs.Environment.{is_among}
use Rattle.target_vars.specs.Members.{members_left}
use Rattle.rule_parser.proofs.guards.has_member.Given as goal

abbrev pub invariant-loop-i : goal.invariant-loop-i
invariant-loop-i l = is_among l.expected (take l.i (members_left l.members)) ≡ false
