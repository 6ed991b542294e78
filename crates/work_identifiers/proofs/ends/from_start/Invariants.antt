use Rattle.std.proofs.Common.{◌≡◌, ◌+◌, drop}
use Rattle.std.specs.List.{prefix_len}
use Rattle.work_identifiers.specs.Ends.{is_before}
use Rattle.work_identifiers.proofs.ends.from_start.Given as goal

abbrev pub invariant-loop-at : goal.invariant-loop-at
invariant-loop-at l = l.at + prefix_len is_before (drop l.at l.text) ≡ prefix_len is_before l.text
