use Rattle.std.proofs.Common.{◌≡◌, ℕ, ◌*◌, ◌≤◌, count_by}
use Rattle.interleaved_runs.specs.Turns.{is_live}
use Rattle.interleaved_runs.specs.StepLists.{ends_of, step_lists_in, with_lists}
use Rattle.interleaved_runs.proofs.TurnsOfAll.{all_after, turns_of}
use Rattle.interleaved_runs.proofs.rounds.turn_until_ended.Given as goal

-- all runs have had t turns
abbrev pub invariant-loop-live : goal.invariant-loop-live
invariant-loop-live g l = (t : ℕ)
    × (l.runs ≡ all_after (64 * t) l.fn.runs)
    × (t ≤ turns_of l.fn.runs)
    × (l.live ≡ count_by is_live l.runs)
    × (g.W.Watch.lists l.watch ≡ with_lists (g.W.Watch.lists l.fn.watch) (step_lists_in t (ends_of l.fn.runs)))

abbrev pub decreases-loop-live : goal.decreases-loop-live
decreases-loop-live g l = turns_of l.runs
