-- The cells and the rows that were counted so far.
use Rattle.std.proofs.Common.{◌≡◌, ℕ, ◌+◌, ◌*◌, ◌≤◌, ◌++◌, Bool, not, cond, List, [], ◌∷◌, get_or, Option, None, Some, refl, sym, ap, ◌∙◌, arith}
use Rattle.std.proofs.Common.{◌==◌, ◌&&◌, if◌then◌else◌, append_assoc, length}
use Rattle.std.specs.Prelude.{filter, map}
use Rattle.std.specs.List.{cons_option, flat_map, range_with_len}
use Rattle.std.proofs.lemmas.List.Elements.{filter-append}
use Rattle.text_model.specs.Texts.{Text}
use Rattle.kbart_rows.specs.Cells.{Holdings, Row, cell_in}
use Rattle.table_inspection.specs.Cells.{CellAt, faults_in_row}
use Rattle.table_inspection.specs.Private.CountedCells.{AreCells, AreRows, faults_at}
use Rattle.table_inspection.proofs.Ranges.{cell_if, flat_more, row_step, at_most_one_more}

abbrev at : ℕ → Text → CellAt
at row text = record { row = row; text = text }

abbrev faults : (Text → Bool) → ℕ → List Text → List CellAt
faults test row texts = filter (λ cell. not (test cell.text)) (map (at row) texts)

faults_of_two : (test : Text → Bool) (row : ℕ) (a b : Option Text)
    → faults test row (cons_option a (cons_option b [])) ≡ faults test row (cons_option a []) ++ faults test row (cons_option b [])
faults_of_two test row None b = refl
faults_of_two test row (Some text) b = filter-append (λ (cell : CellAt). not (test cell.text)) (at row text ∷ []) (map (at row) (cons_option b []))

-- ---- one cell more

pub fault_if : (test : Text → Bool) (row : ℕ) (cell : Option Text) (text : Text) (is_sound : Bool) → cell ≡ Some text → is_sound ≡ test text
    → faults_at test row cell ≡ cell_if (not is_sound) (at row text)
fault_if test row cell text is_sound is sound =
    ap (λ cell. faults test row (cons_option cell [])) is ∙ ap (λ b. cond (not b) (at row text ∷ []) []) (sym sound)

-- ---- the rows so far

-- of the cells of the rows so far that do not pass a test, in columns of which a row has that many
pub record AreCellsSoFar (test : Text → Bool) (columns : List (Option ℕ)) (table : Holdings) (row count first : ℕ) (text : Text) : Type 0 where
  pub gathered : AreCells (flat_map (faults_in_row test columns table) (range_with_len 0 row)) count first text
  pub few : count ≤ length columns * row

-- of the rows so far that pass a test
pub record AreRowsSoFar (test : Row → Bool) (table : Holdings) (row count first : ℕ) : Type 0 where
  pub gathered : AreRows (filter (λ row. test (get_or table.rows row [])) (range_with_len 0 row)) count first
  pub few : count ≤ row

-- a cell is added
pub record AddsCell (test : Text → Bool) (row : ℕ) (cell : Option Text) (count first : ℕ) (text : Text) (new_count new_first : ℕ)
    (new_text : Text) : Type 0 where
  pub added : (others : List CellAt) → AreCells others count first text → AreCells (others ++ faults_at test row cell) new_count new_first new_text
  pub small : new_count ≤ count + 1

pub cells_step : (test : Text → Bool) (column : Option ℕ) (table : Holdings) (row : ℕ) (cell : Option Text) (count first : ℕ) (text : Text)
    (new_count new_first : ℕ) (new_text : Text) → cell ≡ cell_in (get_or table.rows row []) column
    → AddsCell test row cell count first text new_count new_first new_text → AreCellsSoFar test (column ∷ []) table row count first text
    → AreCellsSoFar test (column ∷ []) table (row + 1) new_count new_first new_text
cells_step test column table row cell count first text new_count new_first new_text is adds old =
    let more = flat_more (faults_in_row test (column ∷ []) table) row in
    record {
      gathered = rw more (rw is at (adds.added (flat_map (faults_in_row test (column ∷ []) table) (range_with_len 0 row)) old.gathered));
      few = omega (arith, adds.small, old.few);
    }

-- the cells of two columns
pub two_cells_step : (test : Text → Bool) (print online : Option ℕ) (table : Holdings) (row : ℕ) (first_cell second_cell : Option Text)
    (count first : ℕ) (text : Text) (mid_count mid_first : ℕ) (mid_text : Text) (new_count new_first : ℕ) (new_text : Text)
    → first_cell ≡ cell_in (get_or table.rows row []) print → second_cell ≡ cell_in (get_or table.rows row []) online
    → AddsCell test row first_cell count first text mid_count mid_first mid_text
    → AddsCell test row second_cell mid_count mid_first mid_text new_count new_first new_text
    → AreCellsSoFar test (print ∷ online ∷ []) table row count first text
    → AreCellsSoFar test (print ∷ online ∷ []) table (row + 1) new_count new_first new_text
two_cells_step test print online table row first_cell second_cell count first text mid_count mid_first mid_text new_count new_first new_text first_is second_is
    one two old =
    let columns = print ∷ online ∷ [] in
    let so_far = flat_map (faults_in_row test columns table) (range_with_len 0 row) in
    let cells = get_or table.rows row [] in
    let more : flat_map (faults_in_row test columns table) (range_with_len 0 (row + 1))
    ≡ (so_far ++ faults_at test row first_cell) ++ faults_at test row second_cell =
    flat_more (faults_in_row test columns table) row
    ∙ ap (λ both. so_far ++ both) (faults_of_two test row (cell_in cells print) (cell_in cells online))
    ∙ ap (λ cell. so_far ++ (faults_at test row cell ++ faults_at test row (cell_in cells online))) (sym first_is)
    ∙ ap (λ cell. so_far ++ (faults_at test row first_cell ++ faults_at test row cell)) (sym second_is)
    ∙ sym (append_assoc so_far (faults_at test row first_cell) (faults_at test row second_cell)) in
    record {
      gathered = rw more (two.added (so_far ++ faults_at test row first_cell) (one.added so_far old.gathered));
      few = omega (arith, one.small, two.small, old.few);
    }

pub rows_step : (test : Row → Bool) (table : Holdings) (row count first new_count new_first : ℕ) (has : Bool) → has ≡ test (get_or table.rows row [])
    → new_count ≡ (if has then count + 1 else count) → new_first ≡ (if has && count == 0 then row else first)
    → AreRowsSoFar test table row count first → AreRowsSoFar test table (row + 1) new_count new_first
rows_step test table row count first new_count new_first has is count_is first_is old =
    let few = at_most_one_more has count new_count count_is in
    record {
      gathered = row_step (λ row. test (get_or table.rows row [])) row count first new_count new_first has is old.gathered count_is first_is;
      few = omega (arith, few, old.few);
    }
