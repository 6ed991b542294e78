use Rattle.std.proofs.Common.{◌≡◌, ◌+◌, drop}
use Rattle.std.specs.List.{prefix_len}
use Rattle.work_identifiers.specs.Places.{is_no_mark}
use Rattle.work_identifiers.proofs.rests.unmarked_length.Given as goal

abbrev pub invariant-loop-at : goal.invariant-loop-at
invariant-loop-at l = l.at + prefix_len is_no_mark (drop l.at l.text) ≡ prefix_len is_no_mark l.text
