use Rattle.std.proofs.Common.{◌≡◌, ◌+◌, drop}
use denote.Text.{Utf8}
use denote.Shadow.{shadow}
use Rattle.kbart_rows.specs.Lines.{cells_in}
use Rattle.kbart_rows.specs.Private.Kept.{counted_bytes}
use Rattle.kbart_rows.proofs.sums.sum_by_column.Given as goal

-- the sum so far, with the bytes of what is left, is the whole
abbrev pub invariant-loop-is_counted : goal.invariant-loop-is_counted
invariant-loop-is_counted l = shadow (Utf8 l.rest)
    × (l.sum + counted_bytes (drop l.is_counted-index l.counts) (cells_in l.rest) ≡ counted_bytes l.counts (cells_in l.line))
