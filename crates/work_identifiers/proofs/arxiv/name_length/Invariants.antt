use Rattle.std.proofs.Common.{◌≡◌, ◌+◌, drop}
use Rattle.std.specs.List.{prefix_len}
use Rattle.work_identifiers.specs.Forms.{is_name_byte}
use Rattle.work_identifiers.proofs.arxiv.name_length.Given as goal

abbrev pub invariant-loop-at : goal.invariant-loop-at
invariant-loop-at l = l.at + prefix_len is_name_byte (drop l.at l.lead) ≡ prefix_len is_name_byte l.lead
