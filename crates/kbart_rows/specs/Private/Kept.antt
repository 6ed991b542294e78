-- What a table keeps: how it is read, and how its rows are found.
use Rattle.std.specs.Prelude.{◌≡◌, ℕ, ◌↔◌, ◌==◌, if◌then◌else◌, ◌+◌, ◌≤◌, ◌<◌, List, [], ◌∷◌, map, min, drop, length, get_or, String, Vec, Bool, false}
use Rattle.std.specs.Prelude.{true, All, Option, None, Some}
use Rattle.std.specs.Borrow.{Bor}
use Rattle.std.specs.HashMap.{HashMap, get_by_text, hasher_of}
use Rattle.std.specs.List.{range_with_len}
use Rattle.std.specs.Option.{option_map_or}
use Rattle.std.specs.Str.{bytes_eq, IsCharBoundary}
use Rattle.csv.specs.Reading.{ReadRecord, Ready}
use Rattle.csv.specs.Records.{cut_from, last_end, Rising}
use Rattle.csv.specs.declared.reader.Reader.{Reader}
use Rattle.csv.specs.declared.reader.Trim.TheVariants as trim
use Rattle.text_model.specs.Texts.{Text}
use Rattle.environment_model.specs.Environment.{Environment, is_there, byte_count}
use Rattle.target_vars.specs.declared.env.TheConstants.{MAX_BYTES}
use Rattle.target_vars.specs.declared.error.VarsError.{VarsError}
use Rattle.target_vars.specs.declared.error.VarsError.TheVariants as vars_error
use Rattle.kbart_rows.specs.Cells.{Row, Holdings, NamedCell, cell_bytes, column_of, is_first, name_cell, named_cells, row_bytes}
use Rattle.kbart_rows.specs.Identifiers.{identifier_columns}
use Rattle.kbart_rows.specs.Private.Index.{HasEntries}
use Rattle.kbart_rows.specs.Private.Line.{IsClosed}
use Rattle.kbart_rows.specs.Reading.{AllFit}
use Rattle.kbart_rows.specs.declared.error.TableError.{TableError}
use Rattle.kbart_rows.specs.declared.index.Entry.{Entry}
use Rattle.kbart_rows.specs.declared.keys.Keys.{Keys}
use Rattle.kbart_rows.specs.declared.error.TableError.TheVariants.{TooLong, NotUtf8, NoHeader, TooManyRows, RowTooLong, NoMemory}
use Rattle.kbart_rows.specs.declared.read.TheConstants.{MAX_ROWS, MAX_ROW_BYTES}

-- ---- reading

-- why a line is rejected after that many others
abbrev pub IsRefusedLine : ℕ → Row → TableError → Type 0
IsRefusedLine before cells TooManyRows = MAX_ROWS < before
IsRefusedLine before cells RowTooLong = (before ≤ MAX_ROWS) × (MAX_ROW_BYTES < row_bytes cells)
IsRefusedLine before cells NoMemory = Unit {0}
IsRefusedLine before cells TooLong = ⊥
IsRefusedLine before cells NotUtf8 = ⊥
IsRefusedLine before cells NoHeader = ⊥

-- why a line is rejected, however many others there are
abbrev pub IsLineTooLong : Row → TableError → Type 0
IsLineTooLong cells RowTooLong = MAX_ROW_BYTES < row_bytes cells
IsLineTooLong cells NoMemory = Unit {0}
IsLineTooLong cells TooManyRows = ⊥
IsLineTooLong cells TooLong = ⊥
IsLineTooLong cells NotUtf8 = ⊥
IsLineTooLong cells NoHeader = ⊥

-- the bytes that a reader has left
abbrev pub rest_of : Bor (List ℕ) → Option (List ℕ)
rest_of bytes = Some bytes.now

-- a reader that does not trim cells has read a record of these cells, or found none
abbrev pub IsRead : Reader (Bor (List ℕ)) → Bool → Row → Reader (Bor (List ℕ)) → Type 0
IsRead old found cells new = old.trim ≡ trim.None → Ready old → ReadRecord rest_of old new found cells × (new.first ≡ true)

-- the lines that end at these places of a text, one after another
abbrev pub lines_in : List ℕ → Text → List Text
lines_in ends text = cut_from 0 ends text

-- the text consists of these lines; none is longer than a row may be plus one tab, and each ends with a tab and between two characters
pub record AreKept (ends : List ℕ) (text : Text) : Type 0 where
  pub rising : Rising 0 ends (length text)
  pub whole : last_end 0 ends ≡ length text
  pub apart : All (IsCharBoundary text) ends
  pub short : All (λ line. length line ≤ MAX_ROW_BYTES + 1) (lines_in ends text)
  pub closed : All IsClosed (lines_in ends text)

-- ---- filling

-- the cell of a column under its name, if that column is the first with the name
abbrev pub cell_at_first : Option ℕ → ℕ → Text → Text → Option NamedCell
cell_at_first found column name cell = if option_map_or (λ first. first == column) found false then name_cell name cell else None

-- why a cell is rejected: it is defined, its name is new, and it is too large or memory ran out
abbrev pub IsRefusedCell : Environment → Option NamedCell → VarsError → Type 0
IsRefusedCell env None e = ⊥
IsRefusedCell env (Some cell) e =
    (is_there env cell.name ≡ false) × ((e ≡ vars_error.TooLarge) ↔ (MAX_BYTES < byte_count env + length cell.text))

-- ---- the bytes of each row

-- the bytes of a row's defined cells
abbrev pub bytes_of : Row → Row → ℕ
bytes_of header cells = cell_bytes (named_cells header cells)

-- for each column, whether it is the first with its name
abbrev pub firsts_of : Row → List Bool
firsts_of header = map (is_first header) (range_with_len 0 (length header))

-- the bytes of the cells in the columns that count
abbrev pub counted_bytes : List Bool → Row → ℕ
counted_bytes [] cells = 0
counted_bytes (counts ∷ others) cells = (if counts then length (get_or cells 0 []) else 0) + counted_bytes others (drop 1 cells)

-- ---- the index

-- the text equals this identifier, if there is one
abbrev pub is_id : Text → Option Text → Bool
is_id text id = option_map_or (bytes_eq text) id false

-- the first line is the header
abbrev pub holdings_of : List Row → Keys → Holdings
holdings_of lines keys = record { header = get_or lines 0 []; rows = drop 1 lines; keys = keys }

-- the names in the header are mapped to their first columns, the index has each identifier of each row, both with the same keys; and the bytes of each row
-- are counted
pub record IsIndexed {A C : Type 0} (lines : List Row) (columns : HashMap (String A) ℕ Keys) (print online : Option ℕ) (index : List Entry)
    (bytes : Vec ℕ C) : Type 0 where
  pub header : 0 < length lines
  pub few : length lines ≤ MAX_ROWS + 1
  pub fit : AllFit lines
  pub named : (name : Text) → get_by_text columns name ≡ column_of (get_or lines 0 []) name
  pub identified : print ∷ online ∷ [] ≡ identifier_columns (get_or lines 0 [])
  pub has : HasEntries (hasher_of columns) (print ∷ online ∷ []) (drop 1 lines) index
  pub counted : bytes.items ≡ map (bytes_of (get_or lines 0 [])) (drop 1 lines)

-- the smaller of two rows, each of which may be missing
abbrev pub lesser_of : Option ℕ → Option ℕ → Option ℕ
lesser_of None b = b
lesser_of (Some a) None = Some a
lesser_of (Some a) (Some b) = Some (min a b)
