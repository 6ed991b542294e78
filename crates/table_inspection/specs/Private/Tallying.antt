-- Tallies of the identifiers of rows.
use Rattle.std.specs.Prelude.{◌≡◌, ℕ, ◌<◌, ◌≤◌, ◌++◌, Bool, true, false, nat_lt, List, [], ◌∷◌, All, take, length, get_or, Option, None, Some}
use Rattle.std.specs.List.{list_any}
use Rattle.std.specs.Option.{option_map_or, option_to_list}
use Rattle.std.specs.Str.{bytes_eq}
use Rattle.text_model.specs.Texts.{Text}
use Rattle.kbart_rows.specs.Cells.{defined}
pub use Rattle.kbart_rows.specs.Cells.{Holdings}
use Rattle.kbart_rows.specs.Identifiers.{identifier_columns}
use Rattle.kbart_rows.specs.Sharing.{SharesAtMost}
use Rattle.table_inspection.specs.Identifiers.{distinct, identifiers_of, row_identifiers, rows_having}
use Rattle.table_inspection.specs.declared.most_rows.Most.{Most}
use Rattle.table_inspection.specs.declared.tally.RowIds.{RowIds}
use Rattle.table_inspection.specs.declared.tally.Tally.{Tally}

-- the first of the texts whose number is the largest; there is one unless there are no texts
pub data IsMost (number : Text → ℕ) (texts : List Text) : Option Text → Type 0 where
  none : texts ≡ [] → IsMost number texts None
  some : (front : List Text) (text : Text) (back : List Text) → texts ≡ front ++ text ∷ back → All (λ other. number other < number text) front
      → All (λ other. number other ≤ number text) back → IsMost number texts (Some text)

-- it is that text, and its number
pub record IsMostOf (number : Text → ℕ) (texts : List Text) (most : Most) : Type 0 where
  pub first : IsMost number texts (defined most.id.items)
  pub rows : most.rows ≡ option_map_or number (defined most.id.items) 0

-- how many rows of a table have an identifier
abbrev pub rows_in : Holdings → Text → ℕ
rows_in table id = rows_having (identifier_columns table.header) table.rows id

-- the identifiers of the rows before one
abbrev pub ids_before : Holdings → ℕ → List Text
ids_before table row = identifiers_of (identifier_columns table.header) (take row table.rows)

-- the different ones of these identifiers are counted, and the first with the largest number is known
pub record AreTallied (number : Text → ℕ) (ids : List Text) (tally : Tally) : Type 0 where
  pub counts : tally.identifiers ≡ length (distinct ids)
  pub most : IsMostOf number ids tally.most

-- those of the rows before one are
abbrev pub IsTallied : Holdings → ℕ → Tally → Type 0
IsTallied table row tally = AreTallied (rows_in table) (ids_before table row) tally

abbrev pub IsMostIn : Holdings → Most → Type 0
IsMostIn table most = IsMostOf (rows_in table) (identifiers_of (identifier_columns table.header) table.rows) most

-- the identifiers of a row, what they share, and whether they are known from earlier rows
pub record AreIdsOf (table : Holdings) (own : RowIds) : Type 0 where
  pub inside : own.row < length table.rows
  pub ids : row_identifiers (identifier_columns table.header) (get_or table.rows own.row [])
      ≡ option_to_list (defined own.print.now) ++ option_to_list (defined own.online.now)
  pub shares : SharesAtMost table own.row own.sharing.first own.sharing.rows
  pub repeats : own.is_repeated ≡ true → (id : Text)
      → list_any (bytes_eq id) (row_identifiers (identifier_columns table.header) (get_or table.rows own.row [])) ≡ true
      → list_any (bytes_eq id) (ids_before table own.row) ≡ true

abbrev pub is_before : Option ℕ → ℕ → Bool
is_before None row = false
is_before (Some first) row = nat_lt first row
