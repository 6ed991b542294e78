-- The cells of a holdings table (NISO RP-9-2014, the KBART format): which column has a name, and the cell of a row in that column.
use Rattle.std.specs.Prelude.{ℕ, ◌+◌, ◌-◌, ◌==◌, Bool, false, List, [], ◌∷◌, length, sum_by, get_or, Option, Some, None, option_map, if◌then◌else◌}
use Rattle.std.specs.Option.{option_map_or}
use Rattle.std.specs.List.{position, filter_map, range_with_len}
use Rattle.std.specs.Str.{bytes_eq}
use Rattle.text_model.specs.Texts.{Text}
use Rattle.kbart_rows.specs.declared.keys.Keys.{Keys}

-- the byte between two cells
abbrev pub tab : ℕ
tab = 9

-- the cells of a line, in order
abbrev pub Row : Type 0
Row = List Text

-- how many bytes a row's cells and the tabs between them have
abbrev pub row_bytes : Row → ℕ
row_bytes cells = sum_by length cells + (length cells - 1)

-- the header names the columns; the keys are those of the hashed look-ups, and no result depends on them
pub record Holdings : Type 0 where
  pub header : Row
  pub rows : List Row
  pub keys : Keys

-- ---- the cell of a name

-- the first column with the name
abbrev pub column_of : Row → Text → Option ℕ
column_of header name = position (bytes_eq name) header

-- an empty cell is undefined
abbrev pub defined : Text → Option Text
defined [] = None
defined (b ∷ text) = Some (b ∷ text)

-- a missing cell is undefined as well, and so is a cell of a column that does not exist
abbrev pub cell_in : Row → Option ℕ → Option Text
cell_in cells None = None
cell_in cells (Some column) = defined (get_or cells column [])

abbrev pub cell_of : Row → Row → Text → Option Text
cell_of header cells name = cell_in cells (column_of header name)

-- ---- all cells that are defined

pub record NamedCell : Type 0 where
  pub name : Text
  pub text : Text

-- a cell under a name, if the cell is defined
abbrev pub name_cell : Text → Text → Option NamedCell
name_cell name cell = option_map (λ text. record { name = name; text = text }) (defined cell)

-- the column is the first with its name
abbrev pub is_first : Row → ℕ → Bool
is_first header column = option_map_or (λ first. first == column) (column_of header (get_or header column [])) false

-- the cell of a column under its name; if several columns have the same name, only the first counts
abbrev pub named_cell : Row → Row → ℕ → Option NamedCell
named_cell header cells column =
    if is_first header column then name_cell (get_or header column []) (get_or cells column []) else None

-- the defined cells of a row, in the order of the columns
abbrev pub named_cells : Row → Row → List NamedCell
named_cells header cells = filter_map (named_cell header cells) (range_with_len 0 (length header))

-- how many bytes these cells have
abbrev pub cell_bytes : List NamedCell → ℕ
cell_bytes cells = sum_by (λ cell. length cell.text) cells
