-- Rows and cells that are counted; the first one is kept.
use Rattle.std.specs.Prelude.{◌≡◌, ℕ, Bool, not, List, [], ◌∷◌, codes, length, get_or, filter, Option, map}
use Rattle.std.specs.List.{cons_option}
use Rattle.text_model.specs.Texts.{Text}
use Rattle.kbart_rows.specs.Cells.{Holdings, column_of}
use Rattle.menu.specs.WebLink.{is_web_link}
use Rattle.table_inspection.specs.Cells.{CellAt, cell_faults, has_no_link, is_date, is_long, row_faults}
use Rattle.table_inspection.specs.declared.values.Values.{Values}

-- the number of these rows, and the first
pub record AreRows (rows : List ℕ) (count first : ℕ) : Type 0 where
  pub counts : count ≡ length rows
  pub starts : first ≡ get_or rows 0 0

abbrev pub no_cell : CellAt
no_cell = record { row = 0; text = [] }

-- the number of these cells, and the first
pub record AreCells (cells : List CellAt) (count first : ℕ) (text : Text) : Type 0 where
  pub counts : count ≡ length cells
  pub starts : first ≡ (get_or cells 0 no_cell).row
  pub shows : text ≡ (get_or cells 0 no_cell).text

-- the cell of a row, where it is defined and does not pass a test
abbrev pub faults_at : (Text → Bool) → ℕ → Option Text → List CellAt
faults_at test row cell = filter (λ cell. not (test cell.text)) (map (λ text. record { row = row; text = text }) (cons_option cell []))

-- all that is found in the columns of dates and links, and in the length of rows
pub record AreValues (table : Holdings) (values : Values) : Type 0 where
  pub first_dates : AreCells (cell_faults is_date (column_of table.header (codes "date_first_issue_online") ∷ []) table) values.first_dates.count
      values.first_dates.first values.first_dates.text.now
  pub last_dates : AreCells (cell_faults is_date (column_of table.header (codes "date_last_issue_online") ∷ []) table) values.last_dates.count
      values.last_dates.first values.last_dates.text.now
  pub links : AreCells (cell_faults is_web_link (column_of table.header (codes "title_url") ∷ []) table) values.links.count values.links.first
      values.links.text.now
  pub unlinked : AreRows (row_faults (has_no_link table.header) table) values.unlinked.count values.unlinked.first
  pub long_rows : AreRows (row_faults (is_long table.header) table) values.long_rows.count values.long_rows.first
