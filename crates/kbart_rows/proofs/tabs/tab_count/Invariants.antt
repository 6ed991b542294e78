use Rattle.std.proofs.Common.{◌≡◌, ◌==◌, ◌-◌, ◌≤◌, length, count_by, take}
use Rattle.kbart_rows.specs.Cells as spec
use Rattle.kbart_rows.proofs.tabs.tab_count.Given as goal

-- the tabs so far are counted
abbrev pub invariant-loop-at : goal.invariant-loop-at
invariant-loop-at l = record { within : l.at ≤ length l.line; count : l.count ≡ count_by (λ b. b == spec.tab) (take l.at l.line) }

abbrev pub decreases-loop-at : goal.decreases-loop-at
decreases-loop-at l = length l.line - l.at

abbrev pub invariant-loop-at-2 : goal.invariant-loop-at-2
invariant-loop-at-2 l = record { within : l.at ≤ length l.line; count : l.count ≡ count_by (λ b. b == spec.tab) (take l.at l.line) }

abbrev pub decreases-loop-at-2 : goal.decreases-loop-at-2
decreases-loop-at-2 l = length l.line - l.at
