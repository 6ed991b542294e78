-- Cells of a row's line, each at the place that a cursor gives.
use Rattle.std.proofs.Common.{◌≡◌, ℕ, ◌<◌, true, [], get_or, length, Some, None, is_some, subst, sym, ap, ◌∙◌, arith}
use Rattle.std.proofs.lemmas.Grind.{common_steps}
use Rattle.text_model.specs.Texts.{Text}
use Rattle.target_vars.specs.EnvValue.{piece_at}
use Rattle.kbart_rows.specs.Cells.{Row, column_of, defined}
use Rattle.kbart_rows.specs.Lines.{IsCellAt, cells_in}
use Rattle.row_laws.specs.Shadowing.{has_cell}
use Rattle.row_scope.proofs.BindingLemmas.{defined_text, undefined_text}
use Rattle.row_scope.proofs.Pieces.{piece_length}

pub cell_missing : (line : Text) (column start len : ℕ) → IsCellAt line column start len → len ≡ 0 → defined (get_or (cells_in line) column []) ≡ None
cell_missing line column start len at none =
    ap defined (sym at.is) ∙ undefined_text (piece_at line (start, len)) (piece_length line (start, len) at.within ∙ none)

pub cell_there : (line : Text) (column start len : ℕ) → IsCellAt line column start len → 0 < len → is_some (defined (get_or (cells_in line) column [])) ≡ true
cell_there line column start len at some =
    let long : 0 < length (piece_at line (start, len)) = subst (λ n. 0 < n) (sym (piece_length line (start, len) at.within)) some in
    ap (λ t. is_some (defined t)) (sym at.is) ∙ ap is_some (defined_text (piece_at line (start, len)) long)

-- the cell is that of the first column of its name
pub has_first_cell : (header cells : Row) (column : ℕ) → column_of header (get_or header column []) ≡ Some column
    → is_some (defined (get_or cells column [])) ≡ true → has_cell header cells column ≡ true
has_first_cell header cells column first there = grind (arith, common_steps)
