-- Sums over the entries of a row, column by column.
use Rattle.std.proofs.Common.{◌≡◌, ℕ, ◌+◌, ◌≤◌, ◌==◌, zero, suc, true, false, List, [], ◌∷◌, length, get_or, Option, Some, None, is_some, refl, sym, ap}
use Rattle.std.proofs.Common.{add-one, arith, ◌∙◌}
use Rattle.std.specs.Prelude.{sum_by}
use Rattle.std.proofs.lemmas.Bool.{eqb-true}
use Rattle.std.proofs.lemmas.List.Sums.{sum_by-cons, sum_by_push}
use Rattle.std.specs.List.{filter_map, range_with_len}
use Rattle.std.specs.Option.{option_map_or}
use Rattle.text_model.proofs.Lists.{range_more, sum_by-same}
use Rattle.environment_model.specs.Environment.{Entry, Single, is_there, byte_count, meaning_bytes}
use Rattle.environment_model.proofs.Environments.{with_text-new}
use Rattle.kbart_rows.specs.Cells.{NamedCell, Row, cell_bytes, column_of, is_first, named_cell, named_cells}
use Rattle.kbart_rows.specs.Filling.{with_defined}
use Rattle.row_laws.specs.Shadowing.{row_of}
use Rattle.row_laws.proofs.Columns.{entries_of, entries_more}
use Rattle.row_laws.proofs.CellsByName.{before, nothing_before, up_to}

-- ---- sums

sum_by-filter_map : {X Y : Type 0} (f : Y → ℕ) (h : X → Option Y) (xs : List X) → sum_by f (filter_map h xs) ≡ sum_by (λ x. option_map_or f (h x) 0) xs
sum_by-filter_map f h [] = refl
sum_by-filter_map {X} {Y} f h (x ∷ xs) = by_item (h x) refl (sum_by-filter_map f h xs)
  where
    by_item : (o : Option Y) → h x ≡ o → sum_by f (filter_map h xs) ≡ sum_by (λ x. option_map_or f (h x) 0) xs
        → sum_by f (filter_map h (x ∷ xs)) ≡ sum_by (λ x. option_map_or f (h x) 0) (x ∷ xs)
    by_item None is rest =
        let left : sum_by f (filter_map h (x ∷ xs)) ≡ sum_by f (filter_map h xs) = rw is refl in
        let here : option_map_or f (h x) 0 ≡ 0 = ap (λ o. option_map_or f o 0) is in
        omega (arith, left, here, rest, sum_by-cons (λ x. option_map_or f (h x) 0) x xs)
    by_item (Some y) is rest =
        let left : sum_by f (filter_map h (x ∷ xs)) ≡ sum_by f (y ∷ filter_map h xs) = rw is refl in
        let here : option_map_or f (h x) 0 ≡ f y = ap (λ o. option_map_or f o 0) is in
        omega (arith, left, here, rest, sum_by-cons f y (filter_map h xs), sum_by-cons (λ x. option_map_or f (h x) 0) x xs)

-- ---- the entries

-- a column that is the first with its name is the one at which the name is found
first_found : (n : ℕ) (found : Option ℕ) → option_map_or (λ first. first == n) found false ≡ true → found ≡ Some n
first_found n None is = absurd (cc)
first_found n (Some k) is = ap Some (eqb-true k n is)

module _ (weigh : Entry → ℕ) (header cells : Row) where
  abbrev pub of_cell : Option NamedCell → ℕ
  of_cell None = 0
  of_cell (Some cell) = weigh (record { name = cell.name; meaning = Single cell.text })

  -- no column before the first one with a name gives the row that name
  is_new : (n : ℕ) → n ≤ length header → is_first header n ≡ true → is_there (entries_of header cells n) (get_or header n []) ≡ false
  is_new n within first =
      let found = first_found n (column_of header (get_or header n [])) first in
      ap is_some (up_to header cells (get_or header n []) n within ∙ ap (before cells n) found ∙ nothing_before cells n)

  one_column : (n : ℕ) → n ≤ length header
      → sum_by weigh (with_defined (entries_of header cells n) (named_cell header cells n))
      ≡ sum_by weigh (entries_of header cells n) + of_cell (named_cell header cells n)
  one_column n within = grind (arith, with_text-new, is_new, sum_by_push)

  columns_up_to : (n : ℕ) → n ≤ length header
      → sum_by weigh (entries_of header cells n) ≡ sum_by (λ column. of_cell (named_cell header cells column)) (range_with_len 0 n)
  columns_up_to zero within = refl
  columns_up_to (suc n) within =
      let at : ℕ → ℕ = λ column. of_cell (named_cell header cells column) in
      let here : 0 + n ≡ n = omega arith in
      let more = ap (sum_by weigh) (entries_more header cells n) in
      let last =
      ap (sum_by at) (ap (range_with_len 0) (sym (add-one n)) ∙ range_more 0 n)
      ∙ sum_by_push at (range_with_len 0 n) (0 + n) ∙ ap (λ column. sum_by at (range_with_len 0 n) + at column) here in
      omega (arith, more, last, one_column n (omega arith), columns_up_to n (omega arith))

  pub by_columns : sum_by weigh (row_of (named_cells header cells))
      ≡ sum_by (λ column. of_cell (named_cell header cells column)) (range_with_len 0 (length header))
  by_columns = columns_up_to (length header) (omega arith)

-- ---- the bytes of a row

pub row_bytes : (header cells : Row) → byte_count (row_of (named_cells header cells)) ≡ cell_bytes (named_cells header cells)
row_bytes header cells =
    let weigh : Entry → ℕ = λ e. meaning_bytes e.meaning in
    by_columns weigh header cells
    ∙ sum_by-same (λ column. of_cell weigh header cells (named_cell header cells column))
    (λ column. option_map_or (λ (cell : NamedCell). length cell.text) (named_cell header cells column) 0)
    (λ column. of_text (named_cell header cells column)) (range_with_len 0 (length header))
    ∙ sym (sum_by-filter_map (λ (cell : NamedCell). length cell.text) (named_cell header cells) (range_with_len 0 (length header)))
  where
    of_text : (cell : Option NamedCell) → of_cell (λ e. meaning_bytes e.meaning) header cells cell ≡ option_map_or (λ (c : NamedCell). length c.text) cell 0
    of_text None = refl
    of_text (Some cell) = refl
