use Rattle.std.proofs.Common.{◌≡◌, length, take, string_bytes}
use Rattle.kev_read.specs.Pairs.{value_bytes}
use Rattle.kev_read.specs.Private.Gathered.{AreSpans}
use Rattle.kev_read.specs.Private.KeyOrder.{pairs_at}
use Rattle.kev_read.proofs.key_values.values_by_key.Given as goal

-- the values so far
abbrev pub invariant-loop-index : goal.invariant-loop-index
invariant-loop-index l = record {
  spans : AreSpans (string_bytes l.text) l.spans.items (take l.index-index (pairs_at l.pairs l.order));
  bytes : length (string_bytes l.text) ≡ value_bytes (take l.index-index (pairs_at l.pairs l.order));
}
