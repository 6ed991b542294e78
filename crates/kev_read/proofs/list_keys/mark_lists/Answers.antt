use Rattle.std.proofs.Common.{arith}
use Rattle.kev_read.proofs.ListMarks.{marked_twice}
use Rattle.kev_read.proofs.list_keys.mark_lists.Goals as goal

pub returns : goal.returns
returns c = grind (arith, marked_twice, c.mark_names.ensures, c.mark_names-2.ensures)
