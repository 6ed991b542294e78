use Rattle.std.proofs.Common.{◌≡◌, ℕ, ◌<◌, ◌≤◌, count_by, get_or, take}
use Rattle.verified_runs.specs.RunValue.{RunValue}
use Rattle.interleaved_runs.specs.Turns.{IsMoved, is_live}
use Rattle.interleaved_runs.proofs.turns.turn_all.Given as goal

-- the runs before the place have moved, and the others are unchanged
abbrev pub invariant-loop-run : goal.invariant-loop-run
invariant-loop-run g l = record {
  moved : (i : ℕ) (d : RunValue) → i < l.run-index → IsMoved (get_or l.fn.runs i d) l.n (get_or l.runs i d);
  others : (i : ℕ) (d : RunValue) → l.run-index ≤ i → get_or l.runs i d ≡ get_or l.fn.runs i d;
  live : l.live ≡ count_by is_live (take l.run-index l.runs);
  few : l.live ≤ l.run-index;
}
