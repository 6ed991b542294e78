use Rattle.std.proofs.Common.{ℕ, ◌-◌, ◌≤◌, ◌<◌, get_or}
use Rattle.kbart_rows.specs.Private.Groups.{AreLooser, IsAtLeast}
use Rattle.kbart_rows.specs.declared.index.Entry.{Entry}
use Rattle.kbart_rows.proofs.sharing.note_group.Given as goal

-- the entries so far are noted
abbrev pub invariant-loop-at : goal.invariant-loop-at
invariant-loop-at l = record {
  looser : AreLooser l.initial.notes l.notes;
  noted : (k : ℕ) (d : Entry) → l.start ≤ k → k < l.at → IsAtLeast l.notes (get_or l.entries k d).row (get_or l.entries l.start d).row (l.end - l.start);
}
