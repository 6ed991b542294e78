use Rattle.kbart_rows.proofs.IndexLemmas.{AreSoFar}
use Rattle.kbart_rows.proofs.index.starts_of.Given as goal

-- the starts of the buckets so far
abbrev pub invariant-loop-bucket : goal.invariant-loop-bucket
invariant-loop-bucket l = AreSoFar l.shift l.entries l.starts.items l.bucket l.at
