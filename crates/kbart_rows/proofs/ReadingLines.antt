-- Reading a table line by line.
use Rattle.std.proofs.Common.{Bor, ◌≡◌, ℕ, List, [], ◌∷◌, ◌++◌, Some, true, false, refl, arith, ◌+◌, ◌≤◌, ◌<◌, length, get_or, drop}
use Rattle.std.proofs.lemmas.Grind.{common_steps}
use Rattle.csv.specs.Reading.{Reached, Ready, ReadRecord, source_of, strip_bom}
use Rattle.csv.specs.declared.parser.State.TheVariants as state
use Rattle.csv.specs.declared.reader.Reader.{Reader}
use Rattle.csv.specs.declared.reader.Trim.TheVariants as trim
use Rattle.csv.proofs.ReadFacts.{rows-end, rows-more}
use Rattle.text_model.specs.Texts.{Text}
use Rattle.kbart_rows.specs.Cells.{Row}
use Rattle.kbart_rows.specs.Private.Kept.{IsRefusedLine, rest_of}
use Rattle.kbart_rows.specs.Reading.{tab_separated, AreLines, AreFirstLines, AllFit, IsFreshReader, IsLineFault}
use Rattle.kbart_rows.specs.declared.error.TableError.{TableError}
use Rattle.kbart_rows.specs.declared.error.TableError.TheVariants.{TooLong, NotUtf8, NoHeader, TooManyRows, RowTooLong, NoMemory}
use Rattle.kbart_rows.specs.declared.read.TheConstants.{MAX_ROWS}

-- the reader has read these lines of the bytes
pub record IsReading (bytes : Text) (lines : List Row) (reader : Reader (Bor (List ℕ))) : Type 0 where
  pub trim : reader.trim ≡ trim.None
  pub ready : Ready reader
  pub config : reader.config ≡ tab_separated
  pub rest : Text
  pub source : source_of rest_of reader ≡ Some rest
  pub reached : Reached tab_separated state.StartRecord (strip_bom bytes) lines reader.state rest

pub reading_starts : (bytes : Text) (reader : Reader (Bor (List ℕ))) → IsFreshReader bytes reader → IsReading bytes [] reader
unfolding Reached
reading_starts bytes reader fresh = grind (arith, common_steps)

pub reading_continues : (bytes : Text) (lines : List Row) (old new : Reader (Bor (List ℕ))) (cells : Row) → IsReading bytes lines old
    → ReadRecord rest_of old new true cells → new.first ≡ true → IsReading bytes (lines ++ cells ∷ []) new
reading_continues bytes lines old new cells reading read first =
    let more = rows-more rest_of old new cells tab_separated state.StartRecord (strip_bom bytes) reading.rest lines reading.config reading.source
    reading.reached read in
    grind (arith, common_steps)

pub reading_ends : (bytes : Text) (lines : List Row) (old new : Reader (Bor (List ℕ))) (cells : Row) → IsReading bytes lines old
    → ReadRecord rest_of old new false cells
    → AreLines bytes lines
reading_ends bytes lines old new cells reading read =
    (old.state, reading.rest, reading.reached, rows-end rest_of old new cells tab_separated reading.rest reading.config reading.source read)

-- why a line was rejected, as a fault of the bytes
pub line_refused : (bytes : Text) (lines : List Row) (cells : Row) (e : TableError) → AreFirstLines bytes (lines ++ cells ∷ [])
    → AllFit lines → length lines ≤ MAX_ROWS + 1 → IsRefusedLine (length lines) cells e → IsLineFault bytes e
line_refused bytes lines cells TooManyRows first fit few why =
    (lines, cells, record { lines = first; few = few; fit = fit }, omega (arith, few, why))
line_refused bytes lines cells RowTooLong first fit few why = (lines, cells, record { lines = first; few = few; fit = fit }, why.0, why.1)
line_refused bytes lines cells NoMemory first fit few why = tt
line_refused bytes lines cells TooLong first fit few why = absurd why
line_refused bytes lines cells NotUtf8 first fit few why = absurd why
line_refused bytes lines cells NoHeader first fit few why = absurd why

-- the header and the rows
pub header_first : (lines : List Row) → 0 < length lines → lines ≡ get_or lines 0 [] ∷ drop 1 lines
header_first [] some = absurd (omega (arith, some))
header_first (header ∷ rows) some = refl
