use Rattle.std.proofs.Common.{◌≡◌, [], drop, get_or, map, take}
use Rattle.kbart_rows.specs.Private.Kept.{bytes_of}
use Rattle.kbart_rows.proofs.sums.sums_of.Given as goal

-- the rows so far were added up
abbrev pub invariant-loop-row : goal.invariant-loop-row
invariant-loop-row l = l.sums.items ≡ map (bytes_of (get_or l.lines 0 [])) (take l.row (drop 1 l.lines))
