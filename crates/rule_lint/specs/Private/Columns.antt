-- What is kept of the cells of a column. For private contracts.
use Rattle.std.specs.Prelude.{◌≡◌, ◌≤◌, ◌<◌, ◌==◌, ℕ, ◌+◌, Bool, List, [], ◌∷◌, length, get_or, Some, is_some, if◌then◌else◌}
use Rattle.std.specs.List.{list_all, filter_map}
use Rattle.text_model.specs.Texts.{Text}
use Rattle.kbart_rows.specs.Cells.{Row, cell_in}
use Rattle.rule_lint.specs.declared.columns.Column.{Column}
use Rattle.rule_lint.specs.declared.host_state.HostState.{HostState}
use Rattle.rule_lint.specs.declared.host_state.HostState.TheVariants.{Outside, Slash, Opened, Inside, Past, Lost}
use Rattle.rule_lint.specs.HostStates.{after_text, after_texts, for_both}

abbrev pub no_cells : Column
no_cells = record { complete = 0; outside = Past; slash = Past; opened = Past; inside = Past }

abbrev pub longer_by_one : ℕ → ℕ → ℕ
longer_by_one complete row = if complete == row then row + 1 else complete

-- the column with the cell of one more row
abbrev pub with_cell : Column → ℕ → Text → Column
with_cell column row [] = column
with_cell column row (b ∷ text) = record {
  complete = longer_by_one column.complete row;
  outside = for_both column.outside (after_text Outside (b ∷ text));
  slash = for_both column.slash (after_text Slash (b ∷ text));
  opened = for_both column.opened (after_text Opened (b ∷ text));
  inside = for_both column.inside (after_text Inside (b ∷ text));
}

abbrev pub after_cells : Column → HostState → HostState
after_cells column Outside = column.outside
after_cells column Slash = column.slash
after_cells column Opened = column.opened
after_cells column Inside = column.inside
after_cells column Past = Past
after_cells column Lost = Lost

-- ---- the rows that are kept

abbrev pub has_cell_at : ℕ → Row → Bool
has_cell_at k cells = is_some (cell_in cells (Some k))

abbrev pub cells_at : ℕ → List Row → List Text
cells_at k rows = filter_map (λ cells. cell_in cells (Some k)) rows

pub record IsColumn (k : ℕ) (rows : List Row) (column : Column) : Type 0 where
  pub within : column.complete ≤ length rows
  pub complete : (column.complete == length rows) ≡ list_all (has_cell_at k) rows
  pub outside : column.outside ≡ after_texts Outside (cells_at k rows)
  pub slash : column.slash ≡ after_texts Slash (cells_at k rows)
  pub opened : column.opened ≡ after_texts Opened (cells_at k rows)
  pub inside : column.inside ≡ after_texts Inside (cells_at k rows)

pub record AreColumns (header : Row) (rows : List Row) (columns : List Column) : Type 0 where
  pub count : length columns ≡ length header
  pub each : (k : ℕ) (d : Column) → k < length columns → IsColumn k rows (get_or columns k d)
