use Rattle.table_inspection.proofs.AddingLemmas.{adds_one}
use Rattle.table_inspection.proofs.Ranges.{nothing_of_rows, finding_of_rows}
use Rattle.table_inspection.proofs.rows.Rows.tell.Goals as goal
use Rattle.printed_text.proofs.Adding.{adds_none}

pub returns-then-self-eq0 : goal.returns-then-self-eq0
returns-then-self-eq0 c = λ finding rows are text warns.
    let none = nothing_of_rows finding rows _ _ are c.if-self-eq0.true in
    rw none (adds_none _)

pub returns : goal.returns
returns c = λ finding rows are text warns.
    let some = finding_of_rows finding rows _ _ are c.if-self-eq0.false in
    rw some (adds_one _ _ (finding _ _) (rw (← text c.args.self.count c.args.self.first, ← warns c.args.self.count c.args.self.first)
    at c.in_ok-add_rows.ensures))
