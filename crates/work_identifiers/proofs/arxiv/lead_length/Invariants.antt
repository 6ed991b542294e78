use Rattle.std.proofs.Common.{◌≡◌, ◌+◌, drop}
use Rattle.std.specs.List.{prefix_len}
use Rattle.work_identifiers.specs.Forms.{is_lead_byte}
use Rattle.work_identifiers.proofs.arxiv.lead_length.Given as goal

abbrev pub invariant-loop-at : goal.invariant-loop-at
invariant-loop-at l = l.at + prefix_len is_lead_byte (drop l.at l.text) ≡ prefix_len is_lead_byte l.text
