use Rattle.std.proofs.Common.{◌≡◌, ℕ, ◌≤◌, true}
use Rattle.kbart_rows.specs.Private.Runs.{AreReady, matches}
use Rattle.kbart_rows.proofs.MatchLemmas.{all_left}
use Rattle.kbart_rows.proofs.matches.next_row.Given as goal

-- no row before `least` is left that matches
abbrev pub invariant-loop-least : goal.invariant-loop-least
invariant-loop-least l = record {
  ready : AreReady l.table l.ids l.least l.runs;
  from : l.from ≤ l.least;
  none : (row : ℕ) → matches l.table l.ids row ≡ true → l.from ≤ row → l.least ≤ row;
}

abbrev pub decreases-loop-least : goal.decreases-loop-least
decreases-loop-least l = all_left l.runs
