use Rattle.std.proofs.Common.{◌≡◌, ◌+◌, drop}
use Rattle.std.specs.List.{prefix_len}
use Rattle.work_identifiers.specs.Addresses.{is_no_closer}
use Rattle.work_identifiers.proofs.addresses.closed_length.Given as goal

abbrev pub invariant-loop-at : goal.invariant-loop-at
invariant-loop-at l = l.at + prefix_len is_no_closer (drop l.at l.text) ≡ prefix_len is_no_closer l.text
