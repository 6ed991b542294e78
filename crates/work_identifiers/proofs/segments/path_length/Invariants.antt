use Rattle.std.proofs.Common.{◌≡◌, ◌+◌, drop}
use Rattle.std.specs.List.{prefix_len}
use Rattle.work_identifiers.specs.Places.{is_path_byte}
use Rattle.work_identifiers.proofs.segments.path_length.Given as goal

abbrev pub invariant-loop-at : goal.invariant-loop-at
invariant-loop-at l = l.at + prefix_len is_path_byte (drop l.at l.text) ≡ prefix_len is_path_byte l.text
