use Rattle.std.proofs.Common.{arith}
use Rattle.std.proofs.lemmas.Grind.{common_steps}
use Rattle.table_inspection.proofs.Ranges.{nothing_of_cells}
use Rattle.table_inspection.proofs.cells.Cells.tell.Goals as goal
use Rattle.printed_text.proofs.Adding.{adds_none}

pub returns-then-self-eq0 : goal.returns-then-self-eq0
returns-then-self-eq0 c = λ finding cells are text warns.
    let none = nothing_of_cells finding cells _ _ _ are c.if-self-eq0.true in
    rw none (adds_none _)

pub returns : goal.returns
returns c = grind (arith, common_steps)
