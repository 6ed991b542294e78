use Rattle.std.proofs.Common.{ℕ, ◌+◌, List, subst, sym}
use Rattle.kbart_rows.proofs.IndexLemmas.{AreSoFar, one_start_more}
use Rattle.kbart_rows.proofs.index.starts_of.Goals as goal

pub loop-bucket-preserved : goal.loop-bucket-preserved
loop-bucket-preserved c =
    let entries = c.args.entries.now in
    let bucket = c.loop-bucket.bucket in
    let start = c.start_from-at in
    subst (λ (starts : List ℕ). AreSoFar c.args.shift entries starts (bucket + 1) start.result) (sym c.in_ok-push.ensures.items)
    (one_start_more c.args.shift entries c.loop-bucket.starts.items bucket c.loop-bucket.at start.result c.requires.order c.requires.small
    c.loop-bucket.invariant start.ensures.within.0 start.ensures.within.1 start.ensures.before start.ensures.after)
