-- The keys of the name so far are marked.
use Rattle.std.proofs.Common.{ℕ, ◌<◌, ◌≤◌, get_or}
use Rattle.rule_lint.specs.Private.Starts.{exchanged_key, first_with, lowered_key, shorter_key, whole_key, without}
use Rattle.rule_lint.proofs.starts.mark_name.Given as goal

abbrev pub invariant-loop-i : goal.invariant-loop-i
invariant-loop-i l = record {
  kept : (k : ℕ) → first_with l.firsts k ≤ first_with l.fn.firsts k;
  whole : first_with l.firsts (whole_key l.multiplier l.name) ≤ l.place;
  lowered : first_with l.firsts (lowered_key l.multiplier l.name) ≤ l.place;
  shorter : (j : ℕ) → j < l.i → first_with l.firsts (shorter_key l.multiplier (without l.name j) j) ≤ l.place;
  exchanged : (j : ℕ) → j < l.i → first_with l.firsts (exchanged_key l.multiplier (without l.name j) (get_or l.name j 0) j) ≤ l.place;
}
