-- A cell is no longer than its row.
use Rattle.std.proofs.Common.{◌≡◌, ◌≤◌, ◌<◌, ℕ, zero, suc, List, [], ◌∷◌, Bor, get_or, length, ap, arith}
use Rattle.std.proofs.lemmas.List.{get_or-map, length-map}
use Rattle.std.proofs.lemmas.List.Sums.{get_or-le-sum_by}
use Rattle.text_model.specs.Texts.{Text, texts_of}
use Rattle.kbart_rows.specs.Cells.{Row, row_bytes}
use Rattle.kbart_rows.specs.Reading.{AllFit}
use Rattle.kbart_rows.specs.declared.read.TheConstants.{MAX_ROW_BYTES}

fits_at : (rows : List Row) (row : ℕ) → AllFit rows → row_bytes (get_or rows row []) ≤ MAX_ROW_BYTES
fits_at [] row fit = omega arith
fits_at (cells ∷ rows) zero fit = fit 0 [] (omega arith)
fits_at (cells ∷ rows) (suc row) fit = fits_at rows row (λ i d l. fit (suc i) d (omega (arith, l)))

pub short_cell : (header : Row) (rows : List Row) (row : ℕ) (cells : List (Bor Text)) (column : ℕ) (d : Bor Text) → AllFit (header ∷ rows)
    → texts_of cells ≡ get_or rows row [] → column < length cells → length (get_or cells column d).now ≤ MAX_ROW_BYTES
short_cell header rows row cells column d fit are within =
    let texts = texts_of cells in
    let at = get_or-map (λ (cell : Bor Text). cell.now) cells column d [] within in
    let count = length-map cells (λ (cell : Bor Text). cell.now) in
    let sum = get_or-le-sum_by length texts column [] (omega (arith, within, count)) in
    let bytes = fits_at (header ∷ rows) (suc row) fit in
    omega (arith, sum, bytes, ap row_bytes are, ap length at)
