use Rattle.std.proofs.Common.{◌≡◌, ◌+◌, drop}
use Rattle.std.specs.List.{prefix_len}
use Rattle.work_identifiers.specs.Forms.{is_digit_or_stop}
use Rattle.work_identifiers.proofs.arxiv.number_length.Given as goal

abbrev pub invariant-loop-at : goal.invariant-loop-at
invariant-loop-at l = l.at + prefix_len is_digit_or_stop (drop l.at l.text) ≡ prefix_len is_digit_or_stop l.text
