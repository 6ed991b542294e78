use Rattle.std.proofs.Common.{◌≡◌, drop}
use Rattle.std.specs.List.{list_any}
use Rattle.journal_references.specs.Runs.{has}
use Rattle.journal_references.proofs.runs.has_one.Given as goal

abbrev pub invariant-loop-byte : goal.invariant-loop-byte
invariant-loop-byte l = list_any (has l.class) (drop l.byte-index l.text) ≡ list_any (has l.class) l.text
