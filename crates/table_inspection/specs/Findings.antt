-- The findings in a holdings table, and their lines.
use Rattle.std.specs.Prelude.{ℕ, ◌==◌, Bool, true, false, List, [], ◌∷◌, ◌++◌, codes}
use Rattle.std.specs.Fmt.{decimal}
use Rattle.std.specs.List.{flat_map, list_any}
use Rattle.text_model.specs.Texts.{Text}
use Rattle.printed_text.specs.Printed.{shortened}

-- rows are counted from 0; `first` is the first of the rows (or the row of the first cell), and `text` is the text of the first cell
pub data TableFinding : Type 0 where
  RowCount : (rows : ℕ) → TableFinding
  IdentifierCount : (identifiers : ℕ) → TableFinding
  MissingColumn : (name : Text) (are_both : Bool) → TableFinding
  UnknownColumn : (text : Text) → TableFinding
  MisspelledColumn : (text name : Text) → TableFinding
  IgnoredColumn : (text : Text) → TableFinding
  RowsWithoutIdentifier : (rows first : ℕ) → TableFinding
  NotNumbers : (cells first : ℕ) (text : Text) → TableFinding
  RowsOfOneIdentifier : (rows : ℕ) (identifier : Text) → TableFinding
  NotDates : (column : Text) (cells first : ℕ) (text : Text) → TableFinding
  NotWebLinks : (cells first : ℕ) (text : Text) → TableFinding
  RowsWithoutLink : (rows first : ℕ) → TableFinding
  LongRows : (rows first : ℕ) → TableFinding

-- ---- the parts of a line

abbrev pub counted : Text → ℕ → Text
counted label count = label ++ (codes " " ++ decimal count)

abbrev pub counted_rows : Text → ℕ → ℕ → Text
counted_rows label rows first = label ++ (codes " " ++ (decimal rows ++ (codes ", first " ++ decimal first)))

abbrev pub counted_cells : Text → ℕ → ℕ → Text → Text
counted_cells label cells first text =
    label ++ (codes " " ++ (decimal cells ++ (codes ", first " ++ (decimal first ++ (codes " " ++ shortened text)))))

abbrev pub named_text : Text → Text → Text
named_text label text = label ++ (codes " " ++ shortened text)

-- ---- the lines

abbrev pub finding_text : TableFinding → Text
finding_text (RowCount rows) = counted (codes "rows") rows
finding_text (IdentifierCount identifiers) = counted (codes "identifiers") identifiers
finding_text (MissingColumn name are_both) = codes "no column " ++ name
finding_text (UnknownColumn text) = named_text (codes "unknown column") text
finding_text (MisspelledColumn text name) = named_text (codes "unknown column") text ++ (codes ", did you mean " ++ name)
finding_text (IgnoredColumn text) = named_text (codes "ignored column") text
finding_text (RowsWithoutIdentifier rows first) = counted_rows (codes "rows without an identifier") rows first
finding_text (NotNumbers cells first text) = counted_cells (codes "not an ISSN or ISBN") cells first text
finding_text (RowsOfOneIdentifier rows identifier) = codes "rows of one identifier" ++ (codes " " ++ (decimal rows ++ (codes ", " ++ shortened identifier)))
finding_text (NotDates column cells first text) = counted_cells (column ++ codes " not a date") cells first text
finding_text (NotWebLinks cells first text) = counted_cells (codes "title_url not a web link") cells first text
finding_text (RowsWithoutLink rows first) = counted_rows (codes "rows without title_url") rows first
finding_text (LongRows rows first) = counted_rows (codes "rows longer than the header") rows first

abbrev pub is_table_warning : TableFinding → Bool
is_table_warning (RowCount rows) = rows == 0
is_table_warning (IdentifierCount identifiers) = identifiers == 0
is_table_warning (MissingColumn name are_both) = are_both
is_table_warning (UnknownColumn text) = false
is_table_warning (MisspelledColumn text name) = true
is_table_warning (IgnoredColumn text) = true
is_table_warning (RowsWithoutIdentifier rows first) = true
is_table_warning (NotNumbers cells first text) = true
is_table_warning (RowsOfOneIdentifier rows identifier) = false
is_table_warning (NotDates column cells first text) = true
is_table_warning (NotWebLinks cells first text) = true
is_table_warning (RowsWithoutLink rows first) = false
is_table_warning (LongRows rows first) = true

abbrev pub newline : Text
newline = 10 ∷ []

abbrev pub finding_line : TableFinding → Text
finding_line finding = finding_text finding ++ newline

-- a line for each finding
unfoldable pub lines_of : List TableFinding → Text
lines_of findings = flat_map finding_line findings

-- one of them is a warning
unfoldable pub have_table_warning : List TableFinding → Bool
have_table_warning findings = list_any is_table_warning findings
