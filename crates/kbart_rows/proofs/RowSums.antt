-- The bytes of a row's defined cells, column by column.
use Rattle.std.proofs.Common.{◌≡◌, ℕ, ◌+◌, ◌≤◌, zero, suc, Bool, true, false, List, [], ◌∷◌, length, map, drop, get_or, refl, sym, ap, ◌∙◌, arith}
use Rattle.std.proofs.lemmas.Grind.{common_steps}
use Rattle.std.proofs.Common.{All, if◌then◌else◌}
use Rattle.std.proofs.lemmas.List.{drop-drop, get_or-drop}
use Rattle.std.proofs.lemmas.List.Sums.{sum_by-cons}
use Rattle.std.proofs.lemmas.List.Elements.{All-head, All-tail}
use Rattle.std.specs.List.{cons_option, filter_map, range_with_len, sum_by}
use Rattle.text_model.specs.Texts.{Text}
use Rattle.kbart_rows.specs.Cells.{Row, NamedCell, cell_bytes, is_first, named_cell}
use Rattle.kbart_rows.specs.Private.Kept.{bytes_of, counted_bytes, firsts_of}

abbrev bytes_if : Bool → Text → ℕ
bytes_if counts cell = if counts then length cell else 0

column_adds : (header cells : Row) (column : ℕ) (others : List NamedCell)
    → cell_bytes (cons_option (named_cell header cells column) others) ≡ bytes_if (is_first header column) (get_or cells column []) + cell_bytes others
column_adds header cells column others = grind (arith, common_steps)

columns_add : (header cells : Row) (column n : ℕ)
    → counted_bytes (map (is_first header) (range_with_len column n)) (drop column cells)
    ≡ cell_bytes (filter_map (named_cell header cells) (range_with_len column n))
columns_add header cells column zero = refl
columns_add header cells column (suc n) =
    let here : column + 0 ≡ column = omega arith in
    let cell = get_or-drop column cells 0 [] ∙ ap (λ place. get_or cells place []) here in
    let others = map (is_first header) (range_with_len (column + 1) n) in
    ap (λ text. bytes_if (is_first header column) text + counted_bytes others (drop 1 (drop column cells))) cell
    ∙ ap (λ left. bytes_if (is_first header column) (get_or cells column []) + counted_bytes others left) (drop-drop 1 column cells)
    ∙ ap (λ sum. bytes_if (is_first header column) (get_or cells column []) + sum) (columns_add header cells (column + 1) n)
    ∙ sym (column_adds header cells column (filter_map (named_cell header cells) (range_with_len (column + 1) n)))

-- the columns that are the first of their names count
pub firsts_count : (header cells : Row) → counted_bytes (firsts_of header) cells ≡ bytes_of header cells
firsts_count header cells = columns_add header cells 0 (length header)

-- no more than all cells
pub counted_within : (counts : List Bool) (cells : Row) → counted_bytes counts cells ≤ sum_by length cells
counted_within [] cells = omega arith
counted_within (true ∷ others) [] = omega (arith, counted_within others [])
counted_within (false ∷ others) [] = omega (arith, counted_within others [])
counted_within (true ∷ others) (cell ∷ cells) = omega (arith, counted_within others cells, sum_by-cons length cell cells)
counted_within (false ∷ others) (cell ∷ cells) = omega (arith, counted_within others cells, sum_by-cons length cell cells)

-- no cells have no bytes
pub none_counted : (counts : List Bool) → counted_bytes counts [] ≡ 0
none_counted [] = refl
none_counted (true ∷ others) = omega (arith, none_counted others)
none_counted (false ∷ others) = omega (arith, none_counted others)

-- if all columns count, and there are no cells beyond them, so do all bytes of the cells
pub all_counted : (counts : List Bool) (cells : Row) → All (λ (counts : Bool). counts ≡ true) counts → length cells ≤ length counts
    → counted_bytes counts cells ≡ sum_by length cells
all_counted counts [] all few = none_counted counts
all_counted [] (cell ∷ cells) all few = absurd (omega (arith, few))
all_counted (counts ∷ others) (cell ∷ cells) all few =
    let here = All-head (λ (counts : Bool). counts ≡ true) counts others all in
    let later = all_counted others cells (All-tail (λ (counts : Bool). counts ≡ true) counts others all) (omega (arith, few)) in
    rw here (omega (arith, later, sum_by-cons length cell cells))
