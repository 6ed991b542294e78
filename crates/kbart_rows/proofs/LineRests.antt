-- What is left of a line after some of its columns.
use Rattle.std.proofs.Common.{◌≡◌, ℕ, ◌+◌, ◌≤◌, ◌<◌, zero, suc, [], ◌∷◌, ◌++◌, length, drop, get_or, Some, None, refl, sym, ap, ◌∙◌, arith}
use Rattle.std.proofs.lemmas.List.{get_or_past, length-drop}
use Rattle.std.proofs.lemmas.Option.{slice_get-get_or, slice_get_past}
use Rattle.std.specs.List.{slice_get}
use Rattle.std.proofs.lemmas.Grind.{common_steps}
use Rattle.text_model.specs.Texts.{Text}
use Rattle.kbart_rows.specs.Cells.{Row, tab}
use Rattle.kbart_rows.specs.Lines.{cells_in}
use Rattle.kbart_rows.specs.Private.Line.{IsRest}
use Rattle.kbart_rows.proofs.FirstColumns.{IsAt, item_at}
use Rattle.kbart_rows.proofs.LineCells.{few_cells}

-- the first cell of what is left is that of its column
pub next_cell_at : (line rest cell others : Text) (column : ℕ) → IsRest line column rest → cells_in rest ≡ cell ∷ cells_in others
    → IsAt (cells_in line) column cell (cells_in others)
next_cell_at line rest cell others column left cells = item_at (cells_in line) column cell (cells_in others) (sym cells ∙ left.left)

pub next_cell_is : (line rest cell others : Text) (column : ℕ) → IsRest line column rest → cells_in rest ≡ cell ∷ cells_in others
    → Some cell ≡ slice_get (cells_in line) column
next_cell_is line rest cell others column left cells =
    let at = next_cell_at line rest cell others column left cells in
    sym (slice_get-get_or (cells_in line) column [] at.inside ∙ ap Some (at.is []))

-- so it is one of the line's bytes
pub next_cell_within : (line rest cell others : Text) (column : ℕ) → IsRest line column rest → cells_in rest ≡ cell ∷ cells_in others → column < length line
next_cell_within line rest cell others column left cells = omega (arith, (next_cell_at line rest cell others column left cells).inside, few_cells line)

-- one more column
pub cell_passed : (line rest cell others : Text) (column next : ℕ) → IsRest line column rest → cells_in rest ≡ cell ∷ cells_in others
    → rest ≡ cell ++ tab ∷ others → next ≡ column + 1 → IsRest line next others
cell_passed line rest cell others column next left cells parts more = record {
  front = left.front ++ (cell ++ tab ∷ []);
  parts = grind (arith, common_steps);
  left = (next_cell_at line rest cell others column left cells).after ∙ ap (λ place. drop place (cells_in line)) (sym more);
}

-- nothing comes after the last cell
none_after : (cells : Row) (column next : ℕ) → [] ≡ drop column cells → column ≤ next → (length cells ≤ column) × ([] ≡ drop next cells)
none_after cells column next none more =
    let size : 0 ≡ length (drop column cells) = ap length none in
    let short : length cells ≤ column = omega (arith, size, length-drop column cells) in
    (short, all cells next (omega (arith, short, more)))
  where
    all : (xs : Row) (n : ℕ) → length xs ≤ n → [] ≡ drop n xs
    all [] zero short = refl
    all [] (suc n) short = refl
    all (x ∷ xs) zero short = absurd (omega (arith, short))
    all (x ∷ xs) (suc n) short = all xs n (omega (arith, short))

pub none_is : (line rest : Text) (column : ℕ) → IsRest line column rest → cells_in rest ≡ [] → None ≡ slice_get (cells_in line) column
none_is line rest column left none =
    sym (slice_get_past (cells_in line) column (none_after (cells_in line) column column (sym none ∙ left.left) (omega arith)).0)

pub none_passed : (line rest : Text) (column next : ℕ) → IsRest line column rest → cells_in rest ≡ [] → column ≤ next → IsRest line next rest
none_passed line rest column next left none more = record {
  front = left.front;
  parts = left.parts;
  left = none ∙ (none_after (cells_in line) column next (sym none ∙ left.left) more).1;
}

-- once no cell is left, the cell of every later column is empty
pub cell_past_end : (cells : Row) (passed column : ℕ) → [] ≡ drop passed cells → passed ≤ column → [] ≡ get_or cells column []
cell_past_end cells passed column none within =
    sym (get_or_past cells column [] (omega (arith, (none_after cells passed column none within).0, within)))
