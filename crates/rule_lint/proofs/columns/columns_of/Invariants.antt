-- The rows so far.
use Rattle.std.proofs.Common.{take}
use Rattle.rule_lint.specs.Private.Columns.{AreColumns}
use Rattle.rule_lint.proofs.columns.columns_of.Given as goal

abbrev pub invariant-loop-row : goal.invariant-loop-row
invariant-loop-row l = AreColumns l.table.header (take l.row l.table.rows) l.columns.items
