use Rattle.std.proofs.Common.{◌≡◌, ℕ, ◌-◌, ◌≤◌, ◌<◌, get_or, length}
use Rattle.kbart_rows.specs.declared.index.Entry.{Entry}
use Rattle.kbart_rows.proofs.sharing.group_end.Given as goal

-- the entries so far have the hash of the first
abbrev pub invariant-loop-end : goal.invariant-loop-end
invariant-loop-end l = record {
  after : l.start < l.end;
  within : l.end ≤ length l.entries;
  same : (k : ℕ) (d : Entry) → l.start ≤ k → k < l.end → (get_or l.entries k d).hash ≡ (get_or l.entries l.start d).hash;
}

abbrev pub decreases-loop-end : goal.decreases-loop-end
decreases-loop-end l = length l.entries - l.end
