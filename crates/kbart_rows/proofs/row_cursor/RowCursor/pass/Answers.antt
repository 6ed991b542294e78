use Rattle.std.proofs.Common.{arith}
use Rattle.kbart_rows.proofs.LineRests.{cell_passed, none_passed}
use Rattle.kbart_rows.proofs.row_cursor.RowCursor.pass.Goals as goal

pub invariant_of-self : goal.invariant_of-self
invariant_of-self c = grind (arith, cell_passed, c.in-Some.ensures.cell, c.in-Some.ensures.parts)

pub invariant_of-self-in-None : goal.invariant_of-self-in-None
invariant_of-self-in-None c = grind (arith, none_passed, c.in-None.ensures.none, c.requires.ahead, c.self.view_is)
