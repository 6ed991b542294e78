-- What filling an environment adds to it, and where it stops.
use Rattle.std.proofs.Common.{◌≡◌, ℕ, ◌+◌, ◌-◌, ◌≤◌, ◌<◌, zero, suc, List, [], ◌∷◌, ◌++◌, length, get_or, take, drop, Option, Some, None}
use Rattle.std.proofs.lemmas.Grind.{common_steps}
use Rattle.std.proofs.Common.{Result, Ok, Err, OnOk, IfErr, refl, sym, ap, ◌∙◌, arith, append-nil}
use Rattle.std.proofs.lemmas.List.Sums.{sum_by-cons, sum_by-append, fold-append}
use Rattle.std.proofs.lemmas.List.{take-append-drop}
use Rattle.std.proofs.lemmas.List.Elements.{filter_map-append}
use Rattle.std.specs.List.{cons_option, filter_map, range_with_len, sum_by}
use Rattle.text_model.specs.Texts.{Text}
use Rattle.text_model.proofs.Lists.{range_more}
use Rattle.environment_model.specs.Environment.{Environment, byte_count, member_count}
use Rattle.environment_model.proofs.Environments.{member_count-with_text}
use Rattle.environment_model.proofs.EnvironmentGrowth.{byte_count-with_text-le}
use Rattle.target_vars.specs.declared.env.TheConstants.{MAX_BYTES}
use Rattle.target_vars.specs.declared.error.VarsError.{VarsError}
use Rattle.target_vars.specs.declared.error.VarsError.TheVariants.{TooLarge, NoMemory}
use Rattle.kbart_rows.specs.Cells.{Row, NamedCell, cell_bytes, column_of, named_cell, named_cells, row_bytes}
use Rattle.kbart_rows.specs.Private.Kept.{cell_at_first, IsRefusedCell}
use Rattle.kbart_rows.proofs.FirstColumns.{item_at}
use Rattle.kbart_rows.proofs.Rows.{range_parts}
use Rattle.kbart_rows.specs.Filling.{with_named_cell, with_named_cells, with_defined, StopsAtCell}

-- ---- growth

cell_bytes-cons : (cell : NamedCell) (cells : List NamedCell) → cell_bytes (cell ∷ cells) ≡ length cell.text + cell_bytes cells
cell_bytes-cons cell cells = sum_by-cons (λ (c : NamedCell). length c.text) cell cells

filled_bytes : (env : Environment) (cells : List NamedCell) → byte_count (with_named_cells env cells) ≤ byte_count env + cell_bytes cells
filled_bytes env [] = omega arith
filled_bytes env (cell ∷ cells) =
    omega (arith, filled_bytes (with_named_cell env cell) cells, byte_count-with_text-le env cell.name cell.text, cell_bytes-cons cell cells)

filled_members : (env : Environment) (cells : List NamedCell) → member_count (with_named_cells env cells) ≡ member_count env
filled_members env [] = refl
filled_members env (cell ∷ cells) = filled_members (with_named_cell env cell) cells ∙ member_count-with_text env cell.name cell.text

-- ---- what follows from how far the filling came

-- the environment is as the first cells left it
pub record Reaches (old : Environment) (cells : List NamedCell) (new : Environment) : Type 0 where
  pub before : List NamedCell
  pub after : List NamedCell
  pub in_order : cells ≡ before ++ after
  pub reached : new ≡ with_named_cells old before

pub reaches : {T : Type 0} (old : Environment) (cells : List NamedCell) (new : Environment) (r : Result T VarsError)
    → OnOk r (new ≡ with_named_cells old cells) → IfErr r (StopsAtCell old cells new) → Reaches old cells new
reaches old cells new (Ok x) ok err = record { before = cells; after = []; in_order = sym (append-nil cells); reached = ok }
reaches old cells new (Err e) ok err = record { before = err.before; after = err.refused ∷ err.after; in_order = err.in_order; reached = err.reached }

cell_bytes-parts : (cells before after : List NamedCell) → cells ≡ before ++ after → cell_bytes cells ≡ cell_bytes before + cell_bytes after
cell_bytes-parts cells before after parts = ap cell_bytes parts ∙ sum_by-append (λ (c : NamedCell). length c.text) before after

pub reached_bytes : (old : Environment) (cells : List NamedCell) (new : Environment) → Reaches old cells new
    → byte_count new ≤ byte_count old + cell_bytes cells
reached_bytes old cells new h =
    omega (arith, ap byte_count h.reached, filled_bytes old h.before, cell_bytes-parts cells h.before h.after h.in_order)

pub reached_members : (old : Environment) (cells : List NamedCell) (new : Environment) → Reaches old cells new → member_count new ≡ member_count old
reached_members old cells new h = ap member_count h.reached ∙ filled_members old h.before

-- no cell exceeds the limit if all of them fit
pub only_memory : {T : Type 0} (old : Environment) (cells : List NamedCell) (new : Environment) (r : Result T VarsError)
    → IfErr r (StopsAtCell old cells new) → byte_count old + cell_bytes cells ≤ MAX_BYTES → IfErr r (λ e. e ≡ NoMemory)
only_memory old cells new (Ok x) err fits = tt
only_memory old cells new (Err NoMemory) err fits = refl
only_memory old cells new (Err TooLarge) err fits =
    let bytes = cell_bytes-parts cells err.before (err.refused ∷ err.after) err.in_order in
    let here = cell_bytes-cons err.refused err.after in
    let so_far = filled_bytes old err.before in
    let new_bytes = ap byte_count err.reached in
    let over = err.too_large.0 refl in
    absurd (omega arith)

-- ---- column by column

pub one_cell : (env : Environment) (cell : Option NamedCell) → with_named_cells env (cons_option cell []) ≡ with_defined env cell
one_cell env None = refl
one_cell env (Some cell) = refl

-- the cell of one more column
pub filled_more : (old : Environment) (header cells : Row) (column : ℕ)
    → with_defined (with_named_cells old (filter_map (named_cell header cells) (range_with_len 0 column))) (named_cell header cells column)
    ≡ with_named_cells old (filter_map (named_cell header cells) (range_with_len 0 (column + 1)))
filled_more old header cells column = grind (arith, fold-append, filter_map-append, range_more)

-- the first of the names that are left is that of the column, and the first of the cells that are left is its cell
pub record ColumnAt (header row : Row) (column : ℕ) (name cell : Text) (other_names : Row) (found : Option ℕ) : Type 0 where
  pub inside : column < length header
  pub after : other_names ≡ drop (column + 1) header
  pub is : cell_at_first found column name cell ≡ named_cell header row column

pub column_at : (header row : Row) (column : ℕ) (name cell : Text) (other_names cells : Row) (found : Option ℕ) → name ∷ other_names ≡ drop column header
    → cells ≡ drop column row → cell ≡ get_or cells 0 [] → found ≡ column_of header name → ColumnAt header row column name cell other_names found
column_at header row column name cell other_names cells found names_left cells_left is_cell is_found =
    let at = item_at header column name other_names names_left in
    let here : column + 0 ≡ column = omega arith in
    let cell_there : get_or row column [] ≡ cell = grind (arith, common_steps) in
    grind (arith, common_steps)

-- a cell is rejected after those before it were added
pub stops_at : (old now new : Environment) (header cells : Row) (column : ℕ) (cell : Option NamedCell) (e : VarsError) → column < length header
    → cell ≡ named_cell header cells column → now ≡ with_named_cells old (filter_map (named_cell header cells) (range_with_len 0 column)) → new ≡ now
    → IsRefusedCell now cell e
    → StopsAtCell old (named_cells header cells) new e
stops_at old now new header cells column None e inside is so_far unchanged refused = absurd refused
stops_at old now new header cells column (Some cell) e inside is so_far unchanged refused =
    let others = length header - (column + 1) in
    let size : length header ≡ column + suc others = omega (arith, inside) in
    let here : 0 + column ≡ column = omega arith in
    let test = named_cell header cells in
    record {
      before = filter_map test (range_with_len 0 column);
      refused = cell;
      after = filter_map test (range_with_len (0 + column + 1) others);
      in_order = grind (arith, size, range_parts, filter_map-append, here, is);
      reached = unchanged ∙ so_far;
      is_new = rw unchanged refused.0;
      too_large = rw unchanged refused.1;
    }

-- ---- the bytes of a row's cells

column_bytes : (header cells : Row) (column : ℕ) → cell_bytes (cons_option (named_cell header cells column) []) ≤ length (get_or cells column [])
column_bytes header cells column = grind (arith, common_steps)

take_bytes : (cells : Row) (n : ℕ) → sum_by length (take (suc n) cells) ≡ sum_by length (take n cells) + length (get_or cells n [])
take_bytes [] zero = refl
take_bytes [] (suc n) = refl
take_bytes (cell ∷ cells) zero = omega (arith, sum_by-cons length cell [])
take_bytes (cell ∷ cells) (suc n) = omega (arith, take_bytes cells n, sum_by-cons length cell (take (suc n) cells), sum_by-cons length cell (take n cells))

columns_bytes : (header cells : Row) (n : ℕ) → cell_bytes (filter_map (named_cell header cells) (range_with_len 0 n)) ≤ sum_by length (take n cells)
columns_bytes header cells zero = omega arith
columns_bytes header cells (suc n) =
    let test = named_cell header cells in
    let one_more : suc n ≡ n + 1 = omega arith in
    let here : 0 + n ≡ n = omega arith in
    let parts : filter_map test (range_with_len 0 (suc n)) ≡ filter_map test (range_with_len 0 n) ++ cons_option (test n) [] =
    ap (λ k. filter_map test (range_with_len 0 k)) one_more ∙ ap (filter_map test) (range_more 0 n) ∙ filter_map-append test (range_with_len 0 n) ((0 + n) ∷ [])
    ∙ ap (λ at. filter_map test (range_with_len 0 n) ++ cons_option (test at) []) here in
    omega (
      arith,
      cell_bytes-parts (filter_map test (range_with_len 0 (suc n))) (filter_map test (range_with_len 0 n)) (cons_option (test n) []) parts,
      columns_bytes header cells n,
      column_bytes header cells n,
      take_bytes cells n,
    )

pub row_cell_bytes : (header cells : Row) → cell_bytes (named_cells header cells) ≤ row_bytes cells
row_cell_bytes header cells =
    let n = length header in
    omega (arith, columns_bytes header cells n, sum_by-append length (take n cells) (drop n cells), ap (sum_by length) (take-append-drop n cells))
