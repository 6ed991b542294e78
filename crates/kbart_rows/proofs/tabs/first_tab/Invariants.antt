use Rattle.std.proofs.Common.{ℕ, ◌≢◌, ◌-◌, ◌<◌, ◌≤◌, length, slice_index}
use Rattle.kbart_rows.specs.Cells.{tab}
use Rattle.kbart_rows.proofs.tabs.first_tab.Given as goal

-- no byte so far is a tab
abbrev pub invariant-loop-at : goal.invariant-loop-at
invariant-loop-at l = record { within : l.at ≤ length l.line; lacks : (k : ℕ) → k < l.at → slice_index l.line k ≢ tab }

abbrev pub decreases-loop-at : goal.decreases-loop-at
decreases-loop-at l = length l.line - l.at

abbrev pub invariant-loop-at-2 : goal.invariant-loop-at-2
invariant-loop-at-2 l = record { within : l.at ≤ length l.line; lacks : (k : ℕ) → k < l.at → slice_index l.line k ≢ tab }

abbrev pub decreases-loop-at-2 : goal.decreases-loop-at-2
decreases-loop-at-2 l = length l.line - l.at
