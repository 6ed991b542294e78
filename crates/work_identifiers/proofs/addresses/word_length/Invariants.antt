use Rattle.std.proofs.Common.{◌≡◌, ◌+◌, drop}
use Rattle.std.specs.List.{prefix_len}
use Rattle.work_identifiers.specs.Addresses.{is_in_word}
use Rattle.work_identifiers.proofs.addresses.word_length.Given as goal

abbrev pub invariant-loop-at : goal.invariant-loop-at
invariant-loop-at l = l.at + prefix_len is_in_word (drop l.at l.text) ≡ prefix_len is_in_word l.text
