-- Counting the rows of each identifier, and finding the identifier with the most rows.
use Rattle.std.specs.Prelude.{ℕ, Bool, false, length, Option, None, Some, if◌then◌else◌}
use Rattle.std.specs.Option.{option_map_or}
use Rattle.std.specs.Str.{bytes_eq}
use Rattle.text_model.specs.Texts.{Text}
use Rattle.kbart_rows.specs.Cells.{Holdings}
use Rattle.kbart_rows.specs.Identifiers.{identifier_columns}
use Rattle.table_inspection.specs.Cells.{cell_faults, has_no_identifier, is_numbered, row_faults}
use Rattle.table_inspection.specs.Private.CountedCells.{AreCells, AreRows}
use Rattle.table_inspection.specs.Private.Tallying.{IsTallied}
use Rattle.table_inspection.specs.declared.identifiers.Identified.{Identified}

-- the text equals this identifier, if there is one
abbrev pub is_same_id : Text → Option Text → Bool
is_same_id text id = option_map_or (bytes_eq text) id false

-- 1 if there is an identifier and it is not known yet
abbrev pub new_among : (Text → Bool) → Option Text → ℕ
new_among known None = 0
new_among known (Some id) = if known id then 0 else 1

-- all that is found in the columns of identifiers
pub record AreIdentified (table : Holdings) (found : Identified) : Type 0 where
  pub tallied : IsTallied table (length table.rows) found.tally
  pub unidentified : AreRows (row_faults (has_no_identifier table.header) table) found.unidentified.count found.unidentified.first
  pub bad_numbers : AreCells (cell_faults is_numbered (identifier_columns table.header) table) found.bad_numbers.count found.bad_numbers.first
      found.bad_numbers.text.now
