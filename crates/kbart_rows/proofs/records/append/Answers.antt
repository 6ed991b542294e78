use Rattle.std.proofs.Common.{arith}
use Rattle.kbart_rows.proofs.LineCells.{row_bytes_are}
use Rattle.kbart_rows.proofs.records.append.Goals as goal

pub returns-then-is_too_long-clause-refused : goal.returns-then-is_too_long-clause-refused
returns-then-is_too_long-clause-refused c = grind (arith, c.if-is_too_long.true, row_bytes_are)
