-- Bindings of the names of a code by their numbers, while the columns of a row are read.
use Rattle.std.proofs.Common.{◌≡◌, ◌≢◌, ◌⊎◌, ℕ, ◌+◌, ◌<◌, zero, suc, List, [], ◌∷◌, All, length, get_or, set, Option, Some, None, is_some, slice_get, inl}
use Rattle.std.proofs.lemmas.Grind.{common_steps}
use Rattle.std.proofs.Common.{inr, refl, sym, ap, ◌∙◌, subst, arith, if◌then◌else◌}
use Rattle.std.proofs.Math.Logic.{⊎_elim}
use Rattle.std.proofs.lemmas.List.{length-map}
use Rattle.std.proofs.lemmas.Option.{none-some, slice_get-map, slice_get_read, slice_get_within}
use Rattle.std.specs.Option.{option_map}
use Rattle.text_model.specs.Texts.{Text}
use Rattle.environment_model.specs.Environment.{Environment, look_up, is_there, text_of}
use Rattle.code_model.specs.Code.{Code, Name}
use Rattle.machine_model.specs.Operands.{name_at, text_of_name}
use Rattle.target_vars.specs.EnvValue.{IsWithin, piece_at}
use Rattle.kev_read.specs.Filling as by_pairs
use Rattle.kbart_rows.specs.Cells.{cell_in, cell_of, column_of, defined, named_cells}
use Rattle.kbart_rows.specs.Lines.{IsCellAt, cells_in}
use Rattle.row_laws.specs.Shadowing.{requested, row_of}
use Rattle.row_scope.specs.Bindings.{AreBound, IsBound, laid_in, laid_over}
use Rattle.row_scope.specs.NameColumns.{AreColumns, IsNameColumn}
use Rattle.row_scope.specs.RowEnvironments.{lists_of, names_of}
use Rattle.row_scope.specs.RowValue.{TargetRequestValue}
use Rattle.row_scope.specs.declared.binding.Binding.{Binding}
use Rattle.row_scope.specs.declared.binding.Binding.TheVariants as binding
use Rattle.row_scope.specs.declared.name_columns.NameColumn.{NameColumn}
use Rattle.row_scope.proofs.BindingLemmas.{bound_by_row, bound_by_request}
use Rattle.row_scope.proofs.CellLemmas.{cell_missing}

-- ---- elements of a list that grows or changes

pub slice_get-set : {X : Type 0} (xs : List X) (n : ℕ) (y : X) (i : ℕ) (x : X) → slice_get (set xs n y) i ≡ Some x
    → ((slice_get xs i ≡ Some x) × (n ≢ i)) ⊎ ((n ≡ i) × (y ≡ x))
slice_get-set [] zero y i x is = absurd (none-some x is)
slice_get-set [] (suc n) y i x is = absurd (none-some x is)
slice_get-set (z ∷ xs) zero y zero x is = inr (refl, (cc))
slice_get-set (z ∷ xs) zero y (suc i) x is = inl (is, λ e. omega (arith, e))
slice_get-set (z ∷ xs) (suc n) y zero x is = inl (is, λ e. omega (arith, e))
slice_get-set (z ∷ xs) (suc n) y (suc i) x is =
    ⊎_elim (λ old. inl (old.0, λ e. old.1 (omega (arith, e)))) (λ new. inr (ap suc new.0, new.1)) (slice_get-set xs n y i x is)

-- ---- the name of a number

text_in_table : (o : Option Name) (name : Text) → option_map (λ (n : Name). n.text) o ≡ Some name → text_of_name o ≡ name
text_in_table None name is = absurd (cc)
text_in_table (Some n) name is = (cc)

pub name_at_is : (code : Code) (i : ℕ) (name : Text) → slice_get (names_of code) i ≡ Some name → name_at code i ≡ name
name_at_is code i name is = text_in_table (slice_get code.names i) name (sym (slice_get-map (λ (n : Name). n.text) code.names i) ∙ is)

-- ---- a row's line over a request

abbrev pub of_row : TargetRequestValue → Text → Environment
of_row t line = row_of (named_cells t.table.header (cells_in line))

abbrev pub of_request : TargetRequestValue → Environment
of_request t = requested (lists_of t.code) t.request.pairs

abbrev pub of_both : TargetRequestValue → Text → Environment
of_both t line = by_pairs.filled (lists_of t.code) (of_row t line) t.request.pairs

-- none of the first columns has a cell under the name of the number
abbrev pub HasNoCell : Text → List NameColumn → ℕ → ℕ → Type 0
HasNoCell line places k i =
    (j : ℕ) (place : NameColumn) → j < k → slice_get places j ≡ Some place → place.number ≡ i → defined (get_or (cells_in line) place.column []) ≡ None

-- the name is bound as in the row, or, if no column so far has a cell for it, as in the request
abbrev pub IsBoundSoFar : TargetRequestValue → Text → List NameColumn → ℕ → ℕ → Text → Binding → Type 0
IsBoundSoFar t line places k i name b =
    IsBound (laid_over t.request.values line (of_both t line)) name b
    ⊎ (IsBound (laid_in t.request.values (of_request t)) name b × HasNoCell line places k i)

abbrev pub AreBoundSoFar : TargetRequestValue → Text → List NameColumn → ℕ → List Binding → Type 0
AreBoundSoFar t line places k bindings =
    (i : ℕ) (name : Text) (b : Binding) → slice_get (names_of t.code) i ≡ Some name → slice_get bindings i ≡ Some b → IsBoundSoFar t line places k i name b

module _ (t : TargetRequestValue) (line : Text) (places : List NameColumn)
    (shadow : (name : Text)
    → look_up (of_both t line) name ≡ (if is_there (of_row t line) name then look_up (of_row t line) name else look_up (of_request t) name))
    (by_name : (name : Text) → text_of (of_row t line) name ≡ cell_of t.table.header (cells_in line) name)
    (there : (name : Text) → is_there (of_row t line) name ≡ is_some (cell_of t.table.header (cells_in line) name)) where
  -- one more column
  no_cell_more : (k i : ℕ) (place : NameColumn) → slice_get places k ≡ Some place → (place.number ≡ i → defined (get_or (cells_in line) place.column []) ≡ None)
      → HasNoCell line places k i → HasNoCell line places (k + 1) i
  no_cell_more k i place here none before j other below at same = grind (arith, common_steps)

  -- its cell is missing
  pub bound_without_cell : (k : ℕ) (place : NameColumn) (start len : ℕ) (bindings : List Binding) → slice_get places k ≡ Some place
      → IsCellAt line place.column start len → len ≡ 0 → AreBoundSoFar t line places k bindings → AreBoundSoFar t line places (k + 1) bindings
  bound_without_cell k place start len bindings here at none before i name b named is =
      ⊎_elim (λ over. inl over)
      (λ own. inr (own.0, no_cell_more k i place here (λ same. cell_missing line place.column start len at none) own.1))
      (before i name b named is)

  cell_of_place : (place : NameColumn) (start len : ℕ) (name : Text) → IsNameColumn t.code t.table.header place → IsCellAt line place.column start len
      → slice_get (names_of t.code) place.number ≡ Some name → cell_of t.table.header (cells_in line) name ≡ defined (piece_at line (start, len))
  cell_of_place place start len name column at named =
      ap (λ n. cell_in (cells_in line) (column_of t.table.header n)) (sym (name_at_is t.code place.number name named))
      ∙ ap (cell_in (cells_in line)) column.column ∙ ap defined (sym at.is)

  -- its cell is defined
  pub bound_with_cell : (k : ℕ) (place : NameColumn) (start len : ℕ) (bindings : List Binding) → slice_get places k ≡ Some place
      → IsNameColumn t.code t.table.header place → IsCellAt line place.column start len → 0 < len → AreBoundSoFar t line places k bindings
      → AreBoundSoFar t line places (k + 1) (set bindings place.number (binding.Text (length t.request.values.buffer + start) len))
  bound_with_cell k place start len bindings here column at some before i name b named is =
      let new : Binding = binding.Text (length t.request.values.buffer + start) len in
      let env = laid_over t.request.values line (of_both t line) in
      ⊎_elim
      (λ old.
      ⊎_elim (λ over. inl over)
      (λ own. inr (own.0, no_cell_more k i place here (λ same. absurd (old.1 same)) own.1))
      (before i name b named old.0))
      (λ set_now.
      let named_so : slice_get (names_of t.code) place.number ≡ Some name = ap (slice_get (names_of t.code)) set_now.0 ∙ named in
      inl (subst (IsBound env name) set_now.1
      (bound_by_row t.request.values line (of_row t line) (of_request t) (of_both t line) t.table.header (cells_in line) name
      (shadow name) (by_name name) (there name) start len at.within (cell_of_place place start len name column at named_so) some)))
      (slice_get-set bindings place.number new i b is)

  -- all columns were read
  no_cell_at_all : (i : ℕ) (name : Text) → AreColumns t.code t.table.header places → slice_get (names_of t.code) i ≡ Some name → i < length t.code.names
      → HasNoCell line places (length places) i → (o : Option ℕ) → column_of t.table.header name ≡ o → cell_in (cells_in line) o ≡ None
  no_cell_at_all i name columns named below none None is = refl
  no_cell_at_all i name columns named below none (Some column) is =
      let found = columns.every i column below (ap (column_of t.table.header) (name_at_is t.code i name named) ∙ is) in
      let place : NameColumn = record { column = column; number = i } in
      none found.0 place found.1 (slice_get_read places (length places) found.0 place refl found.1 (sym found.2)) refl

  pub bound_at_last : (bindings : List Binding) → AreColumns t.code t.table.header places → All (IsWithin t.request.values) t.request.values.spans
      → length bindings ≡ length (names_of t.code) → AreBoundSoFar t line places (length places) bindings
      → AreBound (laid_over t.request.values line (of_both t line)) (names_of t.code) bindings
  bound_at_last bindings columns inside one_each before = record {
    one_each = one_each;
    bound = λ i name b named is.
        ⊎_elim (λ over. over)
        (λ own.
        let column = column_of t.table.header name in
        let below : i < length t.code.names = omega (arith, slice_get_within (names_of t.code) i name named, length-map t.code.names (λ (n : Name). n.text)) in
        bound_by_request t.request.values line (of_row t line) (of_request t) (of_both t line) t.table.header (cells_in line) name
        (shadow name) (by_name name) (there name) inside b (no_cell_at_all i name columns named below own.1 column refl) own.0)
        (before i name b named is);
  }
