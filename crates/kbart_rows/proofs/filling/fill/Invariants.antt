use Rattle.std.proofs.Common.{◌≡◌, ◌+◌, ◌≤◌, drop, length}
use denote.Text.{Utf8}
use denote.Shadow.{shadow}
use Rattle.std.specs.List.{filter_map, range_with_len}
use Rattle.kbart_rows.specs.Cells.{named_cell}
use Rattle.kbart_rows.specs.Filling.{with_named_cells}
use Rattle.kbart_rows.specs.Lines.{cells_in}
use Rattle.kbart_rows.proofs.filling.fill.Given as goal

-- the cells of the columns so far were added
abbrev pub invariant-loop-name : goal.invariant-loop-name
invariant-loop-name l = shadow (Utf8 l.names) × shadow (Utf8 l.cells)
    × (cells_in l.names ≡ drop l.column (cells_in l.header)) × (cells_in l.cells ≡ drop l.column (cells_in l.line))
    × (l.column ≤ length (cells_in l.header))
    × (l.column + length l.names ≤ length l.header)
    × (l.env.entries ≡ with_named_cells l.fn.env.entries (filter_map (named_cell (cells_in l.header) (cells_in l.line)) (range_with_len 0 l.column)))

abbrev pub decreases-loop-name : goal.decreases-loop-name
decreases-loop-name l = length l.names
