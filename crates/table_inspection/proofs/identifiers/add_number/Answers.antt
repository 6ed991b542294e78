use Rattle.std.proofs.Common.{◌≡◌, Some, ap, ◌∙◌}
use Rattle.std.specs.Option.{option_copied}
use Rattle.table_inspection.specs.Cells.{is_numbered}
use Rattle.table_inspection.specs.Identifiers.{is_number}
use Rattle.table_inspection.specs.Private.Forms.{normal_form}
use Rattle.table_inspection.proofs.Ranges.{cell_step}
use Rattle.table_inspection.proofs.RowCells.{fault_if}
use Rattle.table_inspection.proofs.identifiers.add_number.Goals as goal

pub returns-in-Some-clause-added : goal.returns-in-Some-clause-added
returns-in-Some-clause-added c = λ others are.
    let text = c.in-Some.text.now in
    let cell : option_copied c.args.cell ≡ Some text = ap option_copied c.in-Some.is in
    let sound : c.is_number.result ≡ is_numbered text = c.is_number.ensures ∙ ap is_number (c.requires.id ∙ ap normal_form cell) in
    let fault = fault_if is_numbered c.args.row (option_copied c.args.cell) text c.is_number.result cell sound in
    rw fault (cell_step others (record { row = c.args.row; text = text }) _ _ _ _ _ _ _ are c.add_if.ensures.count c.add_if.ensures.first
    c.add_if.ensures.text)
