use Rattle.std.proofs.Common.{◌-◌, length}
use Rattle.kbart_rows.proofs.SharingLemmas.{AreNotedSoFar}
use Rattle.kbart_rows.proofs.sharing.note_groups.Given as goal

-- the groups so far are noted
abbrev pub invariant-loop-start : goal.invariant-loop-start
invariant-loop-start l = AreNotedSoFar l.entries (length l.initial.notes) l.start l.notes

abbrev pub decreases-loop-start : goal.decreases-loop-start
decreases-loop-start l = length l.entries - l.start
