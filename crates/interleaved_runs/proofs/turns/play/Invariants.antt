use Rattle.std.proofs.Common.{◌≡◌, ℕ, ◌<◌, get_or, length, take}
use Rattle.verified_runs.specs.RunValue.{RunValue}
use Rattle.interleaved_runs.specs.Turns.{IsPlayed, own_turns}
use Rattle.interleaved_runs.proofs.turns.play.Given as goal

abbrev pub invariant-loop-turn : goal.invariant-loop-turn
invariant-loop-turn g l = record {
  count : length l.runs ≡ length l.fn.runs;
  played : (i : ℕ) (d : RunValue) → i < length l.fn.runs → IsPlayed (get_or l.fn.runs i d) (own_turns i (take l.turn-index l.turns)) (get_or l.runs i d);
}
