-- The start so far is at most the first name that has one of the keys so far.
use Rattle.std.proofs.Common.{ℕ, ◌<◌, ◌≤◌, ◌++◌, codes, get_or, length}
use Rattle.std.proofs.Common.{◌+◌}
use Rattle.rule_lint.specs.Private.Starts.{exchanged_key, first_with, lowered_key, shorter_key, whole_key, without}
use Rattle.rule_lint.proofs.starts.start_of.Given as goal

abbrev pub invariant-loop-i : goal.invariant-loop-i
invariant-loop-i l = record {
  lowered : l.start ≤ first_with l.firsts (lowered_key l.multiplier l.name);
  prefixed : l.start ≤ first_with l.firsts (whole_key l.multiplier (codes "rft." ++ l.name));
  last : l.start ≤ first_with l.firsts (shorter_key l.multiplier l.name (length l.name));
  longer : (j : ℕ) → j < l.i → l.start ≤ first_with l.firsts (shorter_key l.multiplier l.name j);
  shorter : (j : ℕ) → j < l.i → l.start ≤ first_with l.firsts (whole_key l.multiplier (without l.name j));
  replaced : (j : ℕ) → j < l.i → l.start ≤ first_with l.firsts (shorter_key l.multiplier (without l.name j) j);
  exchanged : (j : ℕ) → j < l.i → l.start ≤ first_with l.firsts (exchanged_key l.multiplier (without l.name j) (get_or l.name j 0) (j + 1));
}
