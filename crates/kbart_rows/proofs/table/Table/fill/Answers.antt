use Rattle.std.proofs.Common.{◌≡◌, ◌≤◌, [], get_or, ap, arith}
use Rattle.std.proofs.lemmas.Grind.{common_steps}
use Rattle.std.proofs.lemmas.List.{length-drop}
use Rattle.environment_model.specs.Environment.{byte_count, member_count}
use Rattle.kbart_rows.specs.Cells.{cell_bytes, named_cells}
use Rattle.kbart_rows.specs.Lines.{cells_in}
use Rattle.kbart_rows.specs.declared.read.TheConstants.{MAX_ROW_BYTES}
use Rattle.kbart_rows.proofs.FillingLemmas.{Reaches, reaches, reached_bytes, reached_members, row_cell_bytes, only_memory}
use Rattle.kbart_rows.proofs.table.Table.fill.Goals as goal

-- the cells that were added are those of the row
cells_are : (c : goal.After-fill) → named_cells (cells_in c.header.result.now) (cells_in c.line.result.now) ≡ named_cells c.args.self.now.header
    (get_or c.args.self.now.rows c.args.row [])
cells_are c = grind (arith, common_steps)

-- and there are few enough of them
small : (c : goal.After-fill) → cell_bytes (named_cells (cells_in c.header.result.now) (cells_in c.line.result.now)) ≤ MAX_ROW_BYTES
small c = grind (arith, c.self.invariant.fit, c.requires, length-drop, row_cell_bytes, c.line.ensures.cells)

reach : (c : goal.After-fill) → Reaches c.args.env.now.entries (named_cells (cells_in c.header.result.now) (cells_in c.line.result.now)) c.fill.new.env.entries
reach c = reaches _ _ _ c.fill.result c.fill.ensures.ok c.fill.ensures.err

pub returns-clause-bytes : goal.returns-clause-bytes
returns-clause-bytes c = omega (arith, reached_bytes _ _ _ (reach c), ap cell_bytes (cells_are c))

pub returns-clause-small : goal.returns-clause-small
returns-clause-small c = omega (arith, small c, ap cell_bytes (cells_are c))

pub returns-clause-members : goal.returns-clause-members
returns-clause-members c = reached_members _ _ _ (reach c)

pub returns-clause-room : goal.returns-clause-room
returns-clause-room c = λ fits. only_memory _ _ _ c.fill.result c.fill.ensures.err (omega (arith, fits, small c))

pub returns-clause-empty : goal.returns-clause-empty
returns-clause-empty c = λ empty. only_memory _ _ _ c.fill.result c.fill.ensures.err (omega (arith, ap byte_count empty, small c))

pub returns-clause-request_fits : goal.returns-clause-request_fits
returns-clause-request_fits c = λ empty. (
  omega (arith, ap byte_count empty, small c, reached_bytes _ _ _ (reach c)),
  omega (arith, ap member_count empty, reached_members _ _ _ (reach c)),
)
