-- The rows of a table whose identifiers are as they should be.
use Rattle.std.proofs.Common.{◌≡◌, ℕ, zero, suc, ◌<◌, Bool, true, false, ◌||◌, not, cond, List, [], ◌∷◌, ◌++◌, Option, Some, None, length, get_or, map}
use Rattle.std.proofs.Common.{refl, sym, ap, ◌∙◌, subst, arith}
use Rattle.std.specs.Prelude.{◌==◌, All, filter, option_map}
use Rattle.std.specs.List.{Contains, cons_option, filter_map, flat_map, list_any, range_with_len}
use Rattle.std.specs.Str.{bytes_eq}
use Rattle.std.proofs.lemmas.Bool.{false≢true, or_parts}
use Rattle.std.proofs.lemmas.List.Elements.{All-cons, All-nil}
use Rattle.std.proofs.lemmas.List.Folds.{list_any-append}
use Rattle.std.proofs.lemmas.List.FromFn.{get_or-range_with_len, length-range_with_len}
use Rattle.std.proofs.lemmas.Slice.Eq.{bytes_eq-Decides}
use Rattle.text_model.specs.Texts.{Text}
use Rattle.kbart_rows.specs.Cells.{Holdings, Row, cell_in, defined}
use Rattle.kbart_rows.specs.Identifiers.{identifier_columns, identifiers_in, ids_of, is_match, matching_rows, normalised}
use Rattle.table_inspection.specs.Cells.{CellAt, bad_numbers, cell_faults, faults_in_row, has_no_identifier, is_numbered, of_cells, of_rows, row_faults}
use Rattle.table_inspection.specs.Cells.{unidentified}
use Rattle.table_inspection.specs.Findings.{NotNumbers, RowsWithoutIdentifier, have_table_warning, is_table_warning}
use Rattle.table_inspection.specs.Identifiers.{is_number, most_rows, row_identifiers}
use Rattle.table_inspection.specs.Inspection.{findings_in_identifiers}
use Rattle.menu_laws.specs.OneKey.{by_issn}
use Rattle.menu_laws.proofs.NormalNumbers.{id_of_number}

-- ---- lists without elements

nothing_kept : {X : Type 0} (test : X → Bool) (xs : List X) → filter test xs ≡ [] → All (λ x. test x ≡ false) xs
nothing_kept test [] none = All-nil (λ x. test x ≡ false)
nothing_kept {X = X} test (x ∷ xs) none = by_test (test x) refl none (nothing_kept test xs)
  where
    by_test : (b : Bool) → test x ≡ b → cond b (x ∷ filter test xs) (filter test xs) ≡ [] → (filter test xs ≡ [] → All (λ x. test x ≡ false) xs)
        → All (λ x. test x ≡ false) (x ∷ xs)
    by_test true is none rest = absurd (cc)
    by_test false is none rest = All-cons (λ x. test x ≡ false) x xs is (rest none)

nothing_joined : {X Y : Type 0} (f : X → List Y) (xs : List X) → flat_map f xs ≡ [] → All (λ x. f x ≡ []) xs
nothing_joined f [] none = All-nil (λ x. f x ≡ [])
nothing_joined {Y = Y} f (x ∷ xs) none = by_first (f x) refl none (nothing_joined f xs)
  where
    by_first : (ys : List Y) → f x ≡ ys → ys ++ flat_map f xs ≡ [] → (flat_map f xs ≡ [] → All (λ x. f x ≡ []) xs) → All (λ x. f x ≡ []) (x ∷ xs)
    by_first [] is none rest = All-cons (λ x. f x ≡ []) x xs is (rest none)
    by_first (y ∷ ys) is none rest = absurd (cc)

-- ---- no warnings

no_rows : (rows : List ℕ) → list_any is_table_warning (of_rows RowsWithoutIdentifier rows) ≡ false → rows ≡ []
no_rows [] none = refl
no_rows (row ∷ rows) none = absurd (false≢true (sym none))

no_cells : (cells : List CellAt) → list_any is_table_warning (of_cells NotNumbers cells) ≡ false → cells ≡ []
no_cells [] none = refl
no_cells (cell ∷ cells) none = absurd (false≢true (sym none))

pub record IsClean (table : Holdings) : Type 0 where
  pub rows : row_faults (has_no_identifier table.header) table ≡ []
  pub cells : cell_faults is_numbered (identifier_columns table.header) table ≡ []

is_clean : (table : Holdings) → have_table_warning (findings_in_identifiers table) ≡ false → IsClean table
unfolding have_table_warning findings_in_identifiers unidentified bad_numbers
is_clean table none =
    let first = unidentified table in
    let others = bad_numbers table ++ most_rows table in
    let parts = or_parts (list_any is_table_warning first) (list_any is_table_warning others) (sym (list_any-append is_table_warning first others) ∙ none) in
    let more = or_parts (list_any is_table_warning (bad_numbers table)) (list_any is_table_warning (most_rows table))
    (sym (list_any-append is_table_warning (bad_numbers table) (most_rows table)) ∙ parts.1) in
    record {
      rows = no_rows (row_faults (has_no_identifier table.header) table) parts.0;
      cells = no_cells (cell_faults is_numbered (identifier_columns table.header) table) more.0;
    }

in_range : (P : ℕ → Type 0) (n row : ℕ) → All P (range_with_len 0 n) → row < n → P row
in_range P n row all within =
    let long = length-range_with_len 0 n in
    let at : get_or (range_with_len 0 n) row 0 ≡ row = get_or-range_with_len 0 n row 0 within ∙ omega arith in
    subst P at (all row 0 (omega (arith, long, within)))

-- ---- the identifier of a row

-- one of these is a number
abbrev HasNumber : List Text → Type 0
HasNumber ids = (id : Text) × (is_number id ≡ true) × (list_any (bytes_eq id) ids ≡ true)

same_text : (id : Text) (rest : Bool) → (bytes_eq id id || rest) ≡ true
same_text id rest = rw ((bytes_eq-Decides id id).1 refl) refl

module _ (row : ℕ) (cells : Row) where
  abbrev faults_among : List Text → List CellAt
  faults_among texts = filter (λ (cell : CellAt). not (is_numbered cell.text)) (map (λ text. record { row = row; text = text }) texts)

  one_more_cell : (o : Option Text) (ids texts : List Text) → (length (filter_map defined (cons_option (option_map normalised o) ids)) == 0) ≡ false
      → faults_among (cons_option o texts) ≡ []
      → ((length (filter_map defined ids) == 0) ≡ false → faults_among texts ≡ [] → HasNumber ids)
      → HasNumber (cons_option (option_map normalised o) ids)
  one_more_cell None ids texts some none rest = rest some none
  one_more_cell (Some text) ids texts some none rest = by_test (is_number (normalised text)) refl none
    where
      by_test : (b : Bool) → is_number (normalised text) ≡ b → cond (not b) (record { row = row; text = text } ∷ faults_among texts) (faults_among texts) ≡ []
          → HasNumber (normalised text ∷ ids)
      by_test true number none = (normalised text, number, same_text (normalised text) (list_any (bytes_eq (normalised text)) ids))
      by_test false number none = absurd (cc)

  pub number_of : (columns : List (Option ℕ)) → (length (row_identifiers columns cells) == 0) ≡ false
      → faults_among (filter_map (cell_in cells) columns) ≡ [] → HasNumber (identifiers_in columns cells)
  number_of [] some none = absurd (false≢true (sym some))
  number_of (column ∷ columns) some none =
      one_more_cell (cell_in cells column) (identifiers_in columns cells) (filter_map (cell_in cells) columns) some none (number_of columns)

-- ---- the row is found

kept_at : {X : Type 0} (test : X → Bool) (xs : List X) (k : ℕ) (x : X) → k < length xs → get_or xs k x ≡ x → test x ≡ true → Contains (filter test xs) x
kept_at test [] k x within at passes = absurd (omega (arith, within))
kept_at test (y ∷ xs) zero x within at passes =
    let here : test y ≡ true = ap test at ∙ passes in
    rw here (0, omega arith, at)
kept_at {X = X} test (y ∷ xs) (suc k) x within at passes = by_test (test y) (kept_at test xs k x (omega (arith, within)) at passes)
  where
    by_test : (b : Bool) → Contains (filter test xs) x → Contains (cond b (y ∷ filter test xs) (filter test xs)) x
    by_test true found = (suc found.0, omega (arith, found.1), found.2)
    by_test false found = found

pub row_found : (table : Holdings) (row : ℕ) → have_table_warning (findings_in_identifiers table) ≡ false → row < length table.rows
    → (id : Text) × (is_number id ≡ true) × Contains (matching_rows table (ids_of (by_issn id))) row
unfolding row_faults cell_faults
row_found table row none within =
    let columns = identifier_columns table.header in
    let cells = get_or table.rows row [] in
    let clean = is_clean table none in
    let n = length table.rows in
    let some = in_range (λ row. has_no_identifier table.header (get_or table.rows row []) ≡ false) n row
    (nothing_kept (λ row. has_no_identifier table.header (get_or table.rows row [])) (range_with_len 0 n) clean.rows) within in
    let good = in_range (λ row. faults_in_row is_numbered columns table row ≡ []) n row
    (nothing_joined (faults_in_row is_numbered columns table) (range_with_len 0 n) clean.cells) within in
    let number = number_of row cells columns some good in
    let id = number.0 in
    let test = λ (row : ℕ). is_match columns (id ∷ []) (get_or table.rows row []) in
    let matches : test row ≡ true = rw number.2 refl in
    let long = length-range_with_len 0 n in
    let at : get_or (range_with_len 0 n) row row ≡ row = get_or-range_with_len 0 n row row within ∙ omega arith in
    let found : Contains (matching_rows table (id ∷ [])) row = kept_at test (range_with_len 0 n) row row (omega (arith, long, within)) at matches in
    (id, number.1, subst (λ (ids : List Text). Contains (matching_rows table ids) row) (sym (id_of_number id number.1)) found)
