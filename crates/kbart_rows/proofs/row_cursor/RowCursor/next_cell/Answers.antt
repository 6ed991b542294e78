use Rattle.std.proofs.Common.{ap, ◌∙◌, arith}
use Rattle.std.specs.List.{slice_get}
use Rattle.std.specs.Option.{option_copied}
use Rattle.kbart_rows.specs.Lines.{cells_in, CursorValue}
use Rattle.kbart_rows.proofs.LineRests.{cell_passed, next_cell_is, next_cell_within, none_is, none_passed}
use Rattle.kbart_rows.proofs.row_cursor.RowCursor.next_cell.Goals as goal

pub invariant_of-self : goal.invariant_of-self
invariant_of-self c = grind (arith, none_passed, c.in_err-cell.ensures.none, c.saturating_add-self-inside.ensures)

pub returns-in_err-cell-clause-cell : goal.returns-in_err-cell-clause-cell
returns-in_err-cell-clause-cell c =
    let cursor = c.self.inside in
    ap option_copied c.from_residual.ensures ∙ none_is cursor.line.now cursor.rest.now cursor.column c.self.invariant c.in_err-cell.ensures.none
    ∙ ap (λ (cursor : CursorValue). slice_get (cells_in cursor.line) cursor.column) c.self.view_is

pub invariant_of-self-2 : goal.invariant_of-self-2
invariant_of-self-2 c =
    let cursor = c.self.inside in
    let cell = c.in_ok-cell.cell.now in
    let others = c.in_ok-cell.others.now in
    let found = c.in_ok-cell.ensures in
    let within = next_cell_within cursor.line.now cursor.rest.now cell others cursor.column c.self.invariant found.cell in
    cell_passed cursor.line.now cursor.rest.now cell others cursor.column _ c.self.invariant found.cell found.parts
    (omega (arith, within, c.saturating_add-self-inside.ensures))

pub returns-clause-cell : goal.returns-clause-cell
returns-clause-cell c = grind (arith, next_cell_is, c.in_ok-cell.ensures.cell, c.self.view_is)

pub returns-clause-some : goal.returns-clause-some
returns-clause-some c =
    let cursor = c.self.inside in
    let cell = c.in_ok-cell.cell.now in
    let within = next_cell_within cursor.line.now cursor.rest.now cell c.in_ok-cell.others.now cursor.column c.self.invariant c.in_ok-cell.ensures.cell in
    omega (arith, within, c.saturating_add-self-inside.ensures, ap (λ (cursor : CursorValue). cursor.column) c.self.view_is)
