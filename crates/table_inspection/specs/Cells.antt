-- The cells and the rows of a holdings table that are not as they should be.
use Rattle.std.specs.Prelude.{ℕ, ◌+◌, ◌-◌, ◌*◌, ◌==◌, ◌&&◌, ◌||◌, Bool, not, nat_le, List, [], ◌∷◌, length, take, drop, get_or, filter, map, codes}
use Rattle.std.specs.Prelude.{is_some, is_none, Option, if◌then◌else◌}
use Rattle.std.specs.Char.{is_ascii_digit}
use Rattle.std.specs.List.{filter_map, flat_map, list_all, list_any, range_with_len}
use Rattle.text_model.specs.Texts.{Text}
use Rattle.kbart_rows.specs.Cells.{Row, Holdings, cell_in, cell_of, column_of}
use Rattle.kbart_rows.specs.Identifiers.{identifier_columns, normalised}
use Rattle.menu.specs.WebLink.{is_web_link}
use Rattle.table_inspection.specs.Columns.{is_empty_text}
use Rattle.table_inspection.specs.Findings.{TableFinding, RowsWithoutIdentifier, NotNumbers, NotDates, NotWebLinks, RowsWithoutLink, LongRows}
use Rattle.table_inspection.specs.Identifiers.{is_number, row_identifiers}

-- ---- dates (NISO RP-9-2014, after ISO 8601)

abbrev pub is_year : Text → Bool
is_year text = length text == 4 && list_all is_ascii_digit text

abbrev pub digit : ℕ → ℕ
digit b = b - 0x30

-- a hyphen and two digits, from 01 to a maximum
abbrev pub is_part : ℕ → Text → Bool
is_part last text =
    length text == 3 && (get_or text 0 0 == 0x2d && (list_all is_ascii_digit (drop 1 text)
    && (nat_le 1 (10 * digit (get_or text 1 0) + digit (get_or text 2 0)) && nat_le (10 * digit (get_or text 1 0) + digit (get_or text 2 0)) last)))

abbrev pub is_month : Text → Bool
is_month text = length text == 7 && (list_all is_ascii_digit (take 4 text) && is_part 12 (drop 4 text))

abbrev pub is_day : Text → Bool
is_day text = length text == 10 && (list_all is_ascii_digit (take 4 text) && (is_part 12 (take 3 (drop 4 text)) && is_part 31 (drop 7 text)))

-- `YYYY`, `YYYY-MM` or `YYYY-MM-DD`
abbrev pub is_date : Text → Bool
is_date text = is_year text || (is_month text || is_day text)

-- ---- cells

pub record CellAt : Type 0 where
  pub row : ℕ
  pub text : Text

-- the defined cells of a row in some columns, in the order of the columns
abbrev pub cells_in_row : List (Option ℕ) → Holdings → ℕ → List CellAt
cells_in_row columns table row = map (λ text. record { row = row; text = text }) (filter_map (cell_in (get_or table.rows row [])) columns)

-- the cells of a row that do not pass a test
abbrev pub faults_in_row : (Text → Bool) → List (Option ℕ) → Holdings → ℕ → List CellAt
faults_in_row test columns table row = filter (λ cell. not (test cell.text)) (cells_in_row columns table row)

-- the cells of all rows that do not pass a test, row by row
unfoldable pub cell_faults : (Text → Bool) → List (Option ℕ) → Holdings → List CellAt
cell_faults test columns table = flat_map (faults_in_row test columns table) (range_with_len 0 (length table.rows))

abbrev pub of_cells : (ℕ → ℕ → Text → TableFinding) → List CellAt → List TableFinding
of_cells finding [] = []
of_cells finding (cell ∷ cells) = finding (length (cell ∷ cells)) cell.row cell.text ∷ []

abbrev pub is_numbered : Text → Bool
is_numbered text = is_number (normalised text)

unfoldable pub bad_numbers : Holdings → List TableFinding
bad_numbers table = of_cells NotNumbers (cell_faults is_numbered (identifier_columns table.header) table)

unfoldable pub bad_dates : Text → Holdings → List TableFinding
bad_dates column table = of_cells (NotDates column) (cell_faults is_date (column_of table.header column ∷ []) table)

unfoldable pub bad_links : Holdings → List TableFinding
bad_links table = of_cells NotWebLinks (cell_faults is_web_link (column_of table.header (codes "title_url") ∷ []) table)

-- ---- rows

-- the numbers of the rows whose cells pass a test
unfoldable pub row_faults : (Row → Bool) → Holdings → List ℕ
row_faults test table = filter (λ row. test (get_or table.rows row [])) (range_with_len 0 (length table.rows))

abbrev pub of_rows : (ℕ → ℕ → TableFinding) → List ℕ → List TableFinding
of_rows finding [] = []
of_rows finding (row ∷ rows) = finding (length (row ∷ rows)) row ∷ []

abbrev pub has_no_identifier : Row → Row → Bool
has_no_identifier header cells = length (row_identifiers (identifier_columns header) cells) == 0

unfoldable pub unidentified : Holdings → List TableFinding
unidentified table = of_rows RowsWithoutIdentifier (row_faults (has_no_identifier table.header) table)

abbrev pub has_no_link : Row → Row → Bool
has_no_link header cells = is_none (cell_of header cells (codes "title_url"))

unfoldable pub unlinked : Holdings → List TableFinding
unlinked table =
    if is_some (column_of table.header (codes "title_url")) then of_rows RowsWithoutLink (row_faults (has_no_link table.header) table) else []

-- a cell beyond the columns of the header is not empty
abbrev pub is_long : Row → Row → Bool
is_long header cells = list_any (λ cell. not (is_empty_text cell)) (drop (length header) cells)

unfoldable pub long_rows : Holdings → List TableFinding
long_rows table = of_rows LongRows (row_faults (is_long table.header) table)
