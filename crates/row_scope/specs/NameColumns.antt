-- Which columns of a table have the names of a code, and which of the names are lists.
use Rattle.std.specs.Prelude.{◌≡◌, ℕ, ◌<◌, Bool, false, List, All, length, map, take, get_or, slice_get, Some}
use Rattle.std.specs.List.{Contains}
use Rattle.std.specs.List.Sorted.{IsNonDecreasingBy}
use Rattle.text_model.specs.Texts.{Text}
use Rattle.environment_model.specs.Lists.{is_list}
use Rattle.code_model.specs.Code.{Code}
use Rattle.machine_model.specs.Operands.{name_at}
use Rattle.kbart_rows.specs.Cells.{Row, column_of}
use Rattle.row_scope.specs.RowEnvironments.{lists_of}
use Rattle.row_scope.specs.declared.name_columns.NameColumn.{NameColumn}
use Rattle.row_scope.specs.declared.name_columns.NameColumns.{NameColumns}

-- the number of a name of the code, and the first column with the name
pub record IsNameColumn (code : Code) (header : Row) (place : NameColumn) : Type 0 where
  pub number : place.number < length code.names
  pub column : column_of header (name_at code place.number) ≡ Some place.column

-- all names that have a column, in the order of the columns
pub record AreColumns (code : Code) (header : Row) (places : List NameColumn) : Type 0 where
  pub are : All (IsNameColumn code header) places
  pub rise : IsNonDecreasingBy (λ place. place.column) places
  pub every : (number column : ℕ) → number < length code.names → column_of header (name_at code number) ≡ Some column
      → Contains places (record { column = column; number = number })

-- the names with these numbers
abbrev pub names_at : Code → List ℕ → List Text
names_at code numbers = map (name_at code) numbers

-- the lists that a code declares in addition to those of the standard, each once
pub record AreOwnLists (code : Code) (numbers : List ℕ) : Type 0 where
  pub within : All (λ number. number < length code.names) numbers
  pub new : (k d : ℕ) → k < length numbers → is_list (names_at code (take k numbers)) (name_at code (get_or numbers k d)) ≡ false
  pub same : (name : Text) → is_list (names_at code numbers) name ≡ is_list (lists_of code) name

-- each name that is a list is marked
pub record AreMarked (code : Code) (marks : List Bool) : Type 0 where
  pub one_each : length marks ≡ length code.names
  pub are : (i : ℕ) (mark : Bool) → slice_get marks i ≡ Some mark → mark ≡ is_list (lists_of code) (name_at code i)

-- all that is known about a code and a table before any request
pub record AreNameColumns (code : Code) (header : Row) (names : NameColumns) : Type 0 where
  pub columns : AreColumns code header names.columns.items
  pub lists : AreOwnLists code names.lists.items
  pub marks : AreMarked code names.marks.items
