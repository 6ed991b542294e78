use Rattle.std.proofs.Common.{rules}
use Rattle.kbart_rows.proofs.KeptLines.{no_lines, nothing_kept}
use Rattle.kbart_rows.proofs.records.Records.with_capacity.Goals as goal

pub invariant_of-result : goal.invariant_of-result
invariant_of-result c = rw (c.new.ensures.items, c.in_ok-with_capacity.ensures.bytes) nothing_kept

pub returns : goal.returns
returns c = rw (c.new.ensures.items, c.in_ok-with_capacity.ensures.bytes, no_lines) (search rules)
