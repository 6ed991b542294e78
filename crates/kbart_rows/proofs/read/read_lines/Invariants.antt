use Rattle.std.proofs.Common.{◌≤◌, ◌-◌, ◌+◌, length}
use Rattle.kbart_rows.specs.Reading.{AllFit}
use Rattle.kbart_rows.specs.declared.read.TheConstants.{MAX_ROWS}
use Rattle.kbart_rows.proofs.ReadingWholeLines.{IsReadingWhole}
use Rattle.kbart_rows.proofs.read.read_lines.Given as goal

-- the lines so far were read, and none is rejected
abbrev pub invariant-loop-line : goal.invariant-loop-line
invariant-loop-line l = IsReadingWhole l.bytes l.lines l.reader × AllFit l.lines × (length l.lines ≤ MAX_ROWS + 1)

-- one more line is kept each time, up to the maximum number of rows and the header
abbrev pub decreases-loop-line : goal.decreases-loop-line
decreases-loop-line l = MAX_ROWS + 1 - length l.lines
