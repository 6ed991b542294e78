-- The environment of a row and a request.
use Rattle.std.specs.Prelude.{ℕ, List, [], map, filter, get_or}
use Rattle.text_model.specs.Texts.{Text}
use Rattle.environment_model.specs.Environment.{Environment}
use Rattle.code_model.specs.Code.{Code}
use Rattle.kev_read.specs.Pairs.{KeyValue}
use Rattle.kev_read.specs.Filling as by_pairs
use Rattle.kbart_rows.specs.Cells.{Holdings, Row, named_cells}
use Rattle.row_laws.specs.Shadowing.{row_of}

-- the names of a code, and those that it reads as lists
abbrev pub names_of : Code → List Text
names_of code = map (λ name. name.text) code.names

abbrev pub lists_of : Code → List Text
lists_of code = map (λ name. name.text) (filter (λ name. name.list) code.names)

abbrev pub cells_of_row : Holdings → ℕ → Row
cells_of_row table row = get_or table.rows row []

-- the defined cells of a row, in the order of the columns
abbrev pub entries_of_row : Holdings → ℕ → Environment
entries_of_row table row = row_of (named_cells table.header (cells_of_row table row))

-- the entries of a row and, after them, the pairs of the request: the first entry of a name stays, so no pair replaces a cell
abbrev pub environment_of_row : Code → Holdings → List KeyValue → ℕ → Environment
environment_of_row code table pairs row = by_pairs.filled (lists_of code) (entries_of_row table row) pairs
