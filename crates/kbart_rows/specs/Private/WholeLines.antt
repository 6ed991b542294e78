-- Lines that are read as one field each, with their tabs.
use Rattle.std.specs.Prelude.{◌≡◌, ℕ, List, Some, true}
use Rattle.std.specs.Borrow.{Bor}
use Rattle.csv.specs.Reading.{strip_bom, source_of, Ready}
use Rattle.csv.specs.declared.reader.Reader.{Reader}
use Rattle.csv.specs.declared.reader.Trim.TheVariants as trim
use Rattle.csv.specs.declared.parser.Config.{Config}
use Rattle.csv.specs.declared.parser.State.TheVariants as state
use Rattle.kbart_rows.specs.Reading.{tab_separated}

-- no byte of UTF-8 text is this one
abbrev pub no_byte : ℕ
no_byte = 255

-- this byte separates fields; lines end as in a table
abbrev pub separated_by : ℕ → Config
separated_by byte = record tab_separated { delimiter = byte }

-- the reader reads these bytes as fields that this byte separates, and has read none of them yet
pub record IsReaderBy (byte : ℕ) (bytes : List ℕ) (reader : Reader (Bor (List ℕ))) : Type 0 where
  pub config : reader.config ≡ separated_by byte
  pub trim : reader.trim ≡ trim.None
  pub flexible : reader.flexible ≡ true
  pub ready : Ready reader
  pub state : reader.state ≡ state.StartRecord
  pub source : source_of (λ (rest : Bor (List ℕ)). Some rest.now) reader ≡ Some (strip_bom bytes)
