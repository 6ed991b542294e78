use Rattle.std.proofs.Common.{◌≡◌, ◌+◌, drop}
use Rattle.std.specs.List.{prefix_len}
use Rattle.work_identifiers.specs.Ends.{is_no_break}
use Rattle.work_identifiers.proofs.ends.first_part.Given as goal

abbrev pub invariant-loop-at : goal.invariant-loop-at
invariant-loop-at l = l.at + prefix_len is_no_break (drop l.at l.text) ≡ prefix_len is_no_break l.text
