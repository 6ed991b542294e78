-- What is kept of a request, of a request at a target, and of a row.
use Rattle.std.specs.Prelude.{◌≡◌, ℕ, ◌+◌, ◌≤◌, List, [], ◌++◌, length, take, sum_by, get_or, slice_get, Option, Some}
use Rattle.text_model.specs.Texts.{Text}
use Rattle.environment_model.specs.Environment.{byte_count, member_count}
use Rattle.environment_model.specs.Lists.{is_list}
use Rattle.target_vars.specs.EnvValue.{IsInOrder}
use Rattle.target_vars.specs.declared.env.TheConstants.{MAX_BYTES, MAX_MEMBERS}
use Rattle.kbart_rows.specs.Lines.{cells_in}
use Rattle.row_laws.specs.Shadowing.{requested}
use Rattle.row_scope.specs.RowEnvironments.{cells_of_row, entries_of_row, lists_of, names_of}
use Rattle.row_scope.specs.Bindings.{AreBound, IsBound, laid_in}
use Rattle.row_scope.specs.RequestValues.{RequestValue, AreValues, IsApartFrom}
use Rattle.row_scope.specs.NameNumbers.{own_number}
use Rattle.row_scope.specs.NameColumns.{AreNameColumns}
use Rattle.row_scope.specs.RowValue.{KnownValue, TargetRequestValue, laid_row}
use Rattle.row_scope.specs.declared.binding.Binding.{Binding}
use Rattle.row_scope.specs.declared.name_columns.NameColumns.{NameColumns}
use Rattle.row_scope.specs.declared.known_values.KnownName.{KnownName}

-- ---- a request

-- for each span, the bytes of the spans before it; and last, the bytes of all spans
pub record AreEnds (spans : List (ℕ × ℕ)) (ends : List ℕ) : Type 0 where
  pub one_more : length ends ≡ length spans + 1
  pub are : (i d : ℕ) → i ≤ length spans → get_or ends i d ≡ sum_by (λ span. span.1) (take i spans)

pub record IsRequest (request : RequestValue) (ends : List ℕ) (bytes members : ℕ) : Type 0 where
  pub values : AreValues request
  pub summed : AreEnds request.values.spans ends
  pub all_bytes : bytes ≡ byte_count (requested [] request.pairs)
  pub all_members : members ≡ member_count (requested [] request.pairs)

-- names were added after these
abbrev pub IsExtended : List Text → List Text → Type 0
IsExtended old new = (rest : List Text) × (new ≡ old ++ rest)

-- the name with this number is bound to this in the request without a row, if it is read so
abbrev pub IsKnown : KnownValue → ℕ → KnownName → Type 0
IsKnown known number k =
    (name : Text) (declared : List Text) → own_number known.numbered name ≡ Some number → k.is_list ≡ is_list declared name
    → IsBound (laid_in known.request.values (requested declared known.request.pairs)) name k.binding

-- names by their numbers
abbrev pub AreKnown : KnownValue → List (Option KnownName) → Type 0
AreKnown known names = (number : ℕ) (k : KnownName) → slice_get names number ≡ Some (Some k) → IsKnown known number k

-- ---- a request at a target

pub record IsTargetRequest (t : TargetRequestValue) (names : NameColumns) (bindings : List Binding) (bytes members : ℕ) : Type 0 where
  pub values : AreValues t.request
  pub apart : IsApartFrom t.request t.table.header
  pub placed : AreNameColumns t.code t.table.header names
  pub bound : AreBound (laid_in t.request.values (requested (lists_of t.code) t.request.pairs)) (names_of t.code) bindings
  pub all_bytes : bytes ≡ byte_count (requested (lists_of t.code) t.request.pairs)
  pub all_members : members ≡ member_count (requested (lists_of t.code) t.request.pairs)

-- ---- a row

-- the bytes and the members are those of the row and of the request together
pub record IsRow (t : TargetRequestValue) (row : ℕ) (line : Text) (bindings : List Binding) (bytes members : ℕ) : Type 0 where
  pub cells : cells_in line ≡ cells_of_row t.table row
  pub short : length line ≤ 65537
  pub in_order : IsInOrder (laid_row t row line)
  pub bound : AreBound (laid_row t row line) (names_of t.code) bindings
  pub all_bytes : bytes ≡ byte_count (entries_of_row t.table row) + byte_count (requested (lists_of t.code) t.request.pairs)
  pub few_bytes : bytes ≤ MAX_BYTES
  pub all_members : members ≡ member_count (requested (lists_of t.code) t.request.pairs)
  pub few_members : members ≤ MAX_MEMBERS
