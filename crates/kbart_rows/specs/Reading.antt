-- The table that bytes are read as, and why bytes are rejected.
use Rattle.std.specs.Prelude.{◌≡◌, ℕ, ◌+◌, ◌≤◌, ◌<◌, List, [], ◌∷◌, ◌++◌, length, All, Some, None, true, false, IsUtf8, ⊤}
use Rattle.text_model.specs.Texts.{Text}
use Rattle.std.specs.Borrow.{Bor}
use Rattle.csv.specs.Reading.{strip_bom, source_of, AreRecords, Reached, Ready}
use Rattle.csv.specs.declared.reader.Reader.{Reader}
use Rattle.csv.specs.declared.reader.Trim.TheVariants as trim
use Rattle.csv.specs.declared.parser.Config.{Config}
use Rattle.csv.specs.declared.parser.State.{State}
use Rattle.csv.specs.declared.parser.State.TheVariants as state
use Rattle.csv.specs.declared.parser.Terminator.TheVariants as terminator
use Rattle.kbart_rows.specs.Cells.{Row, Holdings, row_bytes, tab}
use Rattle.kbart_rows.specs.declared.error.TableError.{TableError}
use Rattle.kbart_rows.specs.declared.error.TableError.TheVariants.{TooLong, NotUtf8, NoHeader, TooManyRows, RowTooLong, NoMemory}
use Rattle.kbart_rows.specs.declared.read.TheConstants.{MAX_TABLE_BYTES, MAX_ROWS, MAX_ROW_BYTES}

-- tabs separate cells, and lines end with LF, CR LF or CR; there are no quotes, escapes or comments
abbrev pub tab_separated : Config
tab_separated = record { delimiter = tab; quote = 34; escape = None; double_quote = true; quoting = false; comment = None; terminator = terminator.CRLF }

-- these are the lines of the bytes without blank ones, after one byte order mark is dropped
abbrev pub AreLines : Text → List Row → Type 0
AreLines bytes lines = AreRecords tab_separated state.StartRecord (strip_bom bytes) lines

-- these are the first of those lines
pub record AreFirstLines (bytes : Text) (lines : List Row) : Type 0 where
  pub after : State
  pub rest : Text
  pub reached : Reached tab_separated state.StartRecord (strip_bom bytes) lines after rest

-- the reader reads these bytes as a tab-separated table, and has read none of them yet
pub record IsFreshReader (bytes : List ℕ) (reader : Reader (Bor (List ℕ))) : Type 0 where
  pub config : reader.config ≡ tab_separated
  pub trim : reader.trim ≡ trim.None
  pub flexible : reader.flexible ≡ true
  pub ready : Ready reader
  pub state : reader.state ≡ state.StartRecord
  pub source : source_of (λ (rest : Bor (List ℕ)). Some rest.now) reader ≡ Some (strip_bom bytes)

-- no line is too long
abbrev pub AllFit : List Row → Type 0
AllFit lines = All (λ cells. row_bytes cells ≤ MAX_ROW_BYTES) lines

-- the bytes are short enough, and UTF-8
abbrev pub IsText : Text → Type 0
IsText bytes = (length bytes ≤ MAX_TABLE_BYTES) × IsUtf8 bytes

-- the bytes are this table: the first line is the header, the others are the rows
pub record IsTable (bytes : Text) (table : Holdings) : Type 0 where
  pub text : IsText bytes
  pub lines : AreLines bytes (table.header ∷ table.rows)
  pub few : length table.rows ≤ MAX_ROWS
  pub fit : AllFit (table.header ∷ table.rows)

-- the lines before one that is rejected
pub record StopsAtLine (bytes : Text) (before : List Row) (refused : Row) : Type 0 where
  pub lines : AreFirstLines bytes (before ++ refused ∷ [])
  pub few : length before ≤ MAX_ROWS + 1
  pub fit : AllFit before

-- why lines are not a table; memory may run out for any lines
abbrev pub IsLineFault : Text → TableError → Type 0
IsLineFault bytes NoHeader = AreLines bytes []
IsLineFault bytes TooManyRows = (before : List Row) × (refused : Row) × StopsAtLine bytes before refused × (length before ≡ MAX_ROWS + 1)
IsLineFault bytes RowTooLong =
    (before : List Row) × (refused : Row) × StopsAtLine bytes before refused × (length before ≤ MAX_ROWS) × (MAX_ROW_BYTES < row_bytes refused)
IsLineFault bytes NoMemory = ⊤
IsLineFault bytes TooLong = ⊥
IsLineFault bytes NotUtf8 = ⊥

-- why bytes are not a table: those that are too many or not UTF-8 are not read as lines
abbrev pub IsFault : Text → TableError → Type 0
IsFault bytes TooLong = MAX_TABLE_BYTES < length bytes
IsFault bytes NotUtf8 = (length bytes ≤ MAX_TABLE_BYTES) × ¬ (IsUtf8 bytes)
IsFault bytes NoHeader = IsText bytes × IsLineFault bytes NoHeader
IsFault bytes TooManyRows = IsText bytes × IsLineFault bytes TooManyRows
IsFault bytes RowTooLong = IsText bytes × IsLineFault bytes RowTooLong
IsFault bytes NoMemory = IsText bytes
