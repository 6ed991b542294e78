use Rattle.std.proofs.Common.{ℕ, ◌-◌, ◌≤◌, ◌<◌, get_or, length}
use Rattle.kbart_rows.specs.Private.Index.{bucket_of}
use Rattle.kbart_rows.specs.declared.index.Entry.{Entry}
use Rattle.kbart_rows.proofs.index.start_from.Given as goal

-- the entries so far are of earlier buckets
abbrev pub invariant-loop-start : goal.invariant-loop-start
invariant-loop-start l = record {
  after : l.at ≤ l.start;
  within : l.start ≤ length l.entries;
  before : (k : ℕ) (d : Entry) → l.at ≤ k → k < l.start → bucket_of l.shift (get_or l.entries k d).hash < l.bucket;
}

abbrev pub decreases-loop-start : goal.decreases-loop-start
decreases-loop-start l = length l.entries - l.start
