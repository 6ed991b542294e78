-- How a line is made of cells, and read from left to right.
use Rattle.std.specs.Prelude.{◌≡◌, ℕ, ◌≢◌, ◌≤◌, ◌+◌, [], ◌∷◌, ◌++◌, All, length, sum_by, take, drop}
use Rattle.std.specs.List.{flat_map}
use Rattle.text_model.specs.Texts.{Text}
use Rattle.kbart_rows.specs.Cells.{Row, tab}
use Rattle.kbart_rows.specs.Lines.{cells_in}

abbrev pub cell_and_tab : Text → Text
cell_and_tab cell = cell ++ tab ∷ []

-- the line that is made of the cells
abbrev pub line_of : Row → Text
line_of cells = flat_map cell_and_tab cells

-- the cells of a line that has no tab after its last cell
abbrev pub cells_of : Text → Row
cells_of line = cells_in (line ++ tab ∷ [])

-- the line has the bytes of its cells and a tab for each
abbrev pub IsClosed : Text → Type 0
IsClosed line = length line ≡ sum_by length (cells_in line) + length (cells_in line)

-- no byte is a tab
abbrev pub HasNoTab : Text → Type 0
HasNoTab text = All (λ b. b ≢ tab) text

-- what is left of a line after that many columns
pub record IsRest (line : Text) (column : ℕ) (rest : Text) : Type 0 where
  pub front : Text
  pub parts : line ≡ front ++ rest
  pub left : cells_in rest ≡ drop column (cells_in line)

-- the line begins with the cell, and ends with what is left after it
pub record IsSplit (line cell others : Text) : Type 0 where
  pub starts : take (length cell) line ≡ cell
  pub within : length cell ≤ length line
  pub front : Text
  pub parts : line ≡ front ++ others
