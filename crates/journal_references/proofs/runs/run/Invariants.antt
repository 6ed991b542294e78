use Rattle.std.proofs.Common.{◌≡◌, ◌+◌, drop}
use Rattle.std.specs.List.{prefix_len}
use Rattle.journal_references.specs.Runs.{has}
use Rattle.journal_references.proofs.runs.run.Given as goal

abbrev pub invariant-loop-at : goal.invariant-loop-at
invariant-loop-at l = l.at + prefix_len (has l.class) (drop l.at l.text) ≡ prefix_len (has l.class) l.text
