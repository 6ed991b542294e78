-- A row's cells as one text, in which a tab follows each cell, and where the cells are in it.
use Rattle.std.specs.Prelude.{◌≡◌, ℕ, ◌==◌, ◌+◌, ◌≤◌, [], ◌∷◌, length, get_or, if◌then◌else◌}
use Rattle.text_model.specs.Texts.{Text}
use Rattle.target_vars.specs.EnvValue.{piece_at}
use Rattle.kbart_rows.specs.Cells.{Row, tab}

-- the byte is added at the beginning of the first cell; if there is no cell, it is dropped
abbrev pub prepended : ℕ → Row → Row
prepended b [] = []
prepended b (cell ∷ cells) = (b ∷ cell) ∷ cells

-- the cells of a line: the texts before its tabs
unfoldable pub cells_in : Text → Row
cells_in [] = []
cells_in (b ∷ line) = if b == tab then [] ∷ cells_in line else prepended b (cells_in line)

-- the cell of a column begins at this offset and has this length; a cell that is missing is empty
pub record IsCellAt (line : Text) (column : ℕ) (start len : ℕ) : Type 0 where
  pub within : start + len ≤ length line
  pub is : piece_at line (start, len) ≡ get_or (cells_in line) column []

-- a line, and the number of its columns that the cursor is past
pub record CursorValue : Type 0 where
  pub line : Text
  pub column : ℕ
