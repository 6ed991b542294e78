-- What is kept of a column, one row after another.
use Rattle.std.proofs.Common.{◌≡◌, ℕ, ◌+◌, ◌<◌, ◌≤◌, ◌==◌, Bool, true, false, ◌&&◌, cond, List, [], ◌∷◌, ◌++◌, length, get_or, take, All, Option}
use Rattle.std.proofs.Common.{Some, None, is_some}
use Rattle.std.proofs.Common.{refl, sym, ap, ◌∙◌, arith, subst, append-nil, set, ◌≢◌, inl, inr, get_or-set_other, get_or-set_same}
use Rattle.std.specs.List.{cons_option, list_all, filter_map}
use Rattle.std.proofs.lemmas.Bool.{both_ways, cases_lt, eq-eqb, ne_eqb, and_right}
use Rattle.std.proofs.lemmas.List.{take_more, length-take-le, get_or_default, get_or_past}
use Rattle.std.proofs.lemmas.List.Elements.{filter_map-append}
use Rattle.std.proofs.lemmas.List.Folds.{list_all_more}
use Rattle.text_model.specs.Texts.{Text}
use Rattle.kbart_rows.specs.Cells.{Holdings, Row, cell_in, column_of, defined}
use Rattle.rule_lint.specs.declared.columns.Column.{Column}
use Rattle.rule_lint.specs.declared.host_state.HostState.{HostState}
use Rattle.rule_lint.specs.declared.host_state.HostState.TheVariants.{Outside, Slash, Opened, Inside, Past}
use Rattle.rule_lint.specs.HostStates.{after_text, after_texts, after_texts_from, for_both}
use Rattle.rule_lint.specs.Host.{cells_of_name, is_early}
use Rattle.rule_lint.specs.Private.Columns.{AreColumns, IsColumn, after_cells, cells_at, has_cell_at, longer_by_one, no_cells, with_cell}

-- ---- states

more_texts : (found state : HostState) (texts : List Text) (text : Text)
    → after_texts_from found state (texts ++ text ∷ []) ≡ for_both (after_texts_from found state texts) (after_text state text)
more_texts found state [] text = refl
more_texts found state (first ∷ texts) text = more_texts (for_both found (after_text state first)) state texts text

-- ---- cells

more_cells : (k : ℕ) (rows : List Row) (row : ℕ) → row < length rows
    → cells_at k (take (row + 1) rows) ≡ cells_at k (take row rows) ++ cons_option (defined (get_or (get_or rows row []) k [])) []
more_cells k rows row within =
    ap (cells_at k) (take_more rows row [] within) ∙ filter_map-append (λ (cells : Row). cell_in cells (Some k)) (take row rows) (get_or rows row [] ∷ [])

-- ---- the count

not_complete : (complete row : ℕ) → complete ≤ row → (complete == row + 1) ≡ false
not_complete complete row h = ne_eqb complete (row + 1) (λ e. omega (arith, e, h))

more_complete : (complete row : ℕ) (all : Bool) → complete ≤ row → (complete == row) ≡ all
    → (longer_by_one complete row == row + 1) ≡ (all && true)
more_complete complete row all h e = by_test (complete == row) refl e
  where
    by_test : (b : Bool) → (complete == row) ≡ b → (complete == row) ≡ all → (cond b (row + 1) complete == row + 1) ≡ (all && true)
    by_test true f e = eq-eqb (row + 1) (row + 1) refl ∙ ap (λ (x : Bool). x && true) (sym f ∙ e)
    by_test false f e = not_complete complete row h ∙ ap (λ (x : Bool). x && true) (sym f ∙ e)

longer_within : (complete row : ℕ) → complete ≤ row → longer_by_one complete row ≤ row + 1
longer_within complete row h = by_test (complete == row)
  where
    by_test : (b : Bool) → cond b (row + 1) complete ≤ row + 1
    by_test true = omega arith
    by_test false = omega (arith, h)

-- ---- one more row

pub no_column : (k : ℕ) → IsColumn k [] no_cells
no_column k = record { within = omega arith; complete = refl; outside = refl; slash = refl; opened = refl; inside = refl }

module _ (k row : ℕ) (rows : List Row) (column : Column) (within : row < length rows) (is : IsColumn k (take row rows) column) where
  so_far : length (take row rows) ≡ row
  so_far = length-take-le row rows (omega (arith, within))

  then_far : length (take (row + 1) rows) ≡ row + 1
  then_far = length-take-le (row + 1) rows (omega (arith, within))

  below : column.complete ≤ row
  below = omega (arith, is.within, so_far)

  was_complete : (column.complete == row) ≡ list_all (has_cell_at k) (take row rows)
  was_complete = ap (λ (n : ℕ). column.complete == n) (sym so_far) ∙ is.complete

  all_more : (has : Bool) → has_cell_at k (get_or rows row []) ≡ has
      → list_all (has_cell_at k) (take (row + 1) rows) ≡ (list_all (has_cell_at k) (take row rows) && has)
  all_more has e =
      list_all_more (has_cell_at k) rows row [] within ∙ ap (λ (b : Bool). list_all (has_cell_at k) (take row rows) && b) e

  same_texts : (state found : HostState) → defined (get_or (get_or rows row []) k []) ≡ None → found ≡ after_texts state (cells_at k (take row rows))
      → found ≡ after_texts state (cells_at k (take (row + 1) rows))
  same_texts state found e h =
      h ∙ ap (after_texts state) (sym (more_cells k rows row within ∙ ap (λ (o : Option Text). cells_at k (take row rows) ++ cons_option o []) e
      ∙ append-nil (cells_at k (take row rows))))

  one_text : (state found : HostState) (text : Text) → defined (get_or (get_or rows row []) k []) ≡ Some text
      → found ≡ after_texts state (cells_at k (take row rows))
      → for_both found (after_text state text) ≡ after_texts state (cells_at k (take (row + 1) rows))
  one_text state found text e h =
      ap (λ (s : HostState). for_both s (after_text state text)) h
      ∙ sym (more_texts Past state (cells_at k (take row rows)) text)
      ∙ ap (after_texts state) (sym (more_cells k rows row within ∙ ap (λ (o : Option Text). cells_at k (take row rows) ++ cons_option o []) e))

  pub column_more : (cell : Text) → get_or (get_or rows row []) k [] ≡ cell → IsColumn k (take (row + 1) rows) (with_cell column row cell)
  column_more [] e =
      let none = ap defined e in
      record {
        within = omega (arith, below, then_far);
        complete =
            ap (λ (n : ℕ). column.complete == n) then_far ∙ not_complete column.complete row below
            ∙ sym (all_more false (ap is_some none) ∙ and_right (list_all (has_cell_at k) (take row rows)) false refl);
        outside = same_texts Outside column.outside none is.outside;
        slash = same_texts Slash column.slash none is.slash;
        opened = same_texts Opened column.opened none is.opened;
        inside = same_texts Inside column.inside none is.inside;
      }
  column_more (b ∷ text) e =
      let some = ap defined e in
      record {
        within = omega (arith, longer_within column.complete row below, then_far);
        complete =
            ap (λ (n : ℕ). longer_by_one column.complete row == n) then_far
            ∙ more_complete column.complete row (list_all (has_cell_at k) (take row rows)) below was_complete
            ∙ sym (all_more true (ap is_some some));
        outside = one_text Outside column.outside (b ∷ text) some is.outside;
        slash = one_text Slash column.slash (b ∷ text) some is.slash;
        opened = one_text Opened column.opened (b ∷ text) some is.opened;
        inside = one_text Inside column.inside (b ∷ text) some is.inside;
      }

-- ---- all columns

pub none_yet : (header : Row) (columns : List Column) → length columns ≡ length header → All (λ column. column ≡ no_cells) columns
    → AreColumns header [] columns
none_yet header columns count none = record {
  count = count;
  each = λ k d h. subst (IsColumn k []) (sym (none k d h)) (no_column k);
}

pub columns_more : (header : Row) (rows : List Row) (row : ℕ) (columns new : List Column) (cells : Row) → row < length rows
    → AreColumns header (take row rows) columns → length new ≡ length columns → cells ≡ get_or rows row []
    → ((k : ℕ) (d : Column) → k < length columns → get_or new k d ≡ with_cell (get_or columns k d) row (get_or cells k []))
    → AreColumns header (take (row + 1) rows) new
columns_more header rows row columns new cells within are same here added = record {
  count = same ∙ are.count;
  each = λ k d h.
      let inside : k < length columns = omega (arith, h, same) in
      subst (IsColumn k (take (row + 1) rows)) (sym (added k d inside))
      (column_more k row rows (get_or columns k d) within (are.each k d inside) (get_or cells k [])
      (ap (λ (c : Row). get_or c k []) (sym here)));
}

-- ---- what is kept, by the name of the column

pub after_kept : (k : ℕ) (rows : List Row) (column : Column) (state : HostState) → IsColumn k rows column → is_early state ≡ true
    → after_cells column state ≡ after_texts state (cells_at k rows)
after_kept k rows column Outside is e = is.outside
after_kept k rows column Slash is e = is.slash
after_kept k rows column Opened is e = is.opened
after_kept k rows column Inside is e = is.inside
after_kept k rows column other is e = absurd (both_ways false refl e)

pub cells_of_column : (table : Holdings) (name : Text) (k : ℕ) → column_of table.header name ≡ Some k → cells_of_name table name ≡ cells_at k table.rows
cells_of_column table name k e = ap (λ (column : Option ℕ). filter_map (λ (cells : Row). cell_in cells column) table.rows) e

pub no_column_has_cells : (table : Holdings) (name : Text) → column_of table.header name ≡ None → cells_of_name table name ≡ []
no_column_has_cells table name e = ap (λ (column : Option ℕ). filter_map (λ (cells : Row). cell_in cells column) table.rows) e ∙ none table.rows
  where
    none : (rows : List Row) → filter_map (λ (cells : Row). cell_in cells None) rows ≡ []
    none [] = refl
    none (cells ∷ rows) = none rows

-- ---- the columns of a row, one at a time

-- the columns before k have their cells
abbrev AreAdded : List Column → List Column → Row → ℕ → ℕ → Type 0
AreAdded old new cells row k = (j : ℕ) (d : Column) → j < k → get_or new j d ≡ with_cell (get_or old j d) row (get_or cells j [])

-- the columns from k on are unchanged
abbrev AreKept : List Column → List Column → ℕ → Type 0
AreKept old new k = (j : ℕ) (d : Column) → k ≤ j → get_or new j d ≡ get_or old j d

pub next_kept : (old new : List Column) (k : ℕ) (column : Column) → AreKept old new k → AreKept old (set new k column) (k + 1)
next_kept old new k column kept = λ j d h.
    let other : j ≢ k = omega (arith, h) in
    get_or-set_other new k j column d other ∙ kept j d (omega (arith, h))

pub next_added : (old new : List Column) (cells : Row) (row k : ℕ) (column d : Column) (cell : Text) → k < length new
    → column ≡ with_cell (get_or new k d) row cell → cell ≡ get_or cells k [] → AreAdded old new cells row k → AreKept old new k
    → AreAdded old (set new k column) cells row (k + 1)
next_added old new cells row k column d cell within is here added kept = λ j e h. elim (cases_lt j k) [
  | inl below ↦
      let other : j ≢ k = omega (arith, below) in
      get_or-set_other new k j column e other ∙ added j e below
  | inr above ↦
      let same : k ≡ j = omega (arith, above, h) in
      subst (λ (i : ℕ). get_or (set new k column) i e ≡ with_cell (get_or old i e) row (get_or cells i [])) same
      (get_or-set_same new k column e within
      ∙ (is
      ∙ (ap (λ (c : Column). with_cell c row cell) (get_or_default new k d e within ∙ kept k e (omega arith)) ∙ ap (with_cell (get_or old k e) row) here)))
]

-- no cell is left
pub rest_unchanged : (old new : List Column) (cells : Row) (row k : ℕ) → length cells ≤ k → AreAdded old new cells row k → AreKept old new k
    → (j : ℕ) (d : Column) → j < length old → get_or new j d ≡ with_cell (get_or old j d) row (get_or cells j [])
rest_unchanged old new cells row k end added kept = λ j d h. elim (cases_lt j k) [
  | inl below ↦ added j d below
  | inr above ↦
      kept j d above ∙ ap (with_cell (get_or old j d) row) (sym (get_or_past cells j [] (omega (arith, above, end))))
]
