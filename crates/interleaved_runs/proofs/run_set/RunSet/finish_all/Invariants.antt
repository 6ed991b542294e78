use Rattle.std.proofs.Common.{◌≡◌, count_by, drop}
use Rattle.std.specs.Prelude.{is_none}
use Rattle.std.specs.Vec.Iter.{into_iter_items, into_iter_len}
use Rattle.interleaved_runs.specs.Private.RunSets.{fates_in}
use Rattle.interleaved_runs.proofs.FateLemmas.{AddUp, outcomes_in_the_end}
use Rattle.interleaved_runs.proofs.run_set.RunSet.finish_all.Given as goal

abbrev pub invariant-loop-excess : goal.invariant-loop-excess
invariant-loop-excess g l = record {
  fates : AddUp l.fates.items (drop l.excess-index l.excess-items) (into_iter_items l.runs)
      (fates_in l.excess-items (outcomes_in_the_end (into_iter_items l.initial.runs)));
  left : count_by is_none (drop l.excess-index l.excess-items) ≡ into_iter_len l.runs;
}
