-- Where a row's cells are in its line.
use Rattle.std.proofs.Common.{count_by, Bor, ◌≡◌, ◌≢◌, ℕ, ◌==◌, ◌≤◌, true, false, zero, suc, List, [], ◌∷◌, ◌++◌, length, map, get_or, All, Option, Some, None}
use Rattle.std.proofs.Common.{refl, sym, ap, ◌∙◌, arith, append_assoc, length-append, if◌then◌else◌}
use Rattle.std.proofs.lemmas.List.Elements.{All-head, All-tail}
use Rattle.std.proofs.lemmas.Option.{same_Some, none-some}
use Rattle.std.specs.List.{sum_by}
use Rattle.std.specs.Option.{option_map, unwrap_or}
use Rattle.std.proofs.lemmas.Grind.{common_steps}
use Rattle.csv.specs.Records.{field_at}
use Rattle.text_model.specs.Texts.{Text}
use Rattle.kbart_rows.specs.Cells.{Row, row_bytes, tab}
use Rattle.kbart_rows.specs.Lines.{prepended, cells_in}
use Rattle.kbart_rows.specs.Private.Line.{cells_of, line_of, HasNoTab, IsClosed}

pub no_cells : cells_in [] ≡ []
unfolding cells_in
no_cells = refl

is_no_tab : (b : ℕ) → b ≢ tab → (b == tab) ≡ false
is_no_tab b other = grind arith

-- a cell without a tab, and its tab
pub first_cell : (cell rest : Text) → HasNoTab cell → cells_in (cell ++ tab ∷ rest) ≡ cell ∷ cells_in rest
unfolding cells_in
first_cell [] rest plain = refl
first_cell (b ∷ cell) rest plain =
    let other = is_no_tab b (All-head (λ b. b ≢ tab) b cell plain) in
    rw other (ap (prepended b) (first_cell cell rest (All-tail (λ b. b ≢ tab) b cell plain)))

-- bytes without a tab after them are not a cell
pub no_cell : (line : Text) → HasNoTab line → cells_in line ≡ []
unfolding cells_in
no_cell [] plain = refl
no_cell (b ∷ line) plain =
    let other = is_no_tab b (All-head (λ b. b ≢ tab) b line plain) in
    rw other (ap (prepended b) (no_cell line (All-tail (λ b. b ≢ tab) b line plain)))

-- the cells that a line was made of
pub cells_of_line : (cells : Row) → All HasNoTab cells → cells_in (line_of cells) ≡ cells
cells_of_line [] plain = no_cells
cells_of_line (cell ∷ cells) plain =
    ap cells_in (append_assoc cell (tab ∷ []) (line_of cells))
    ∙ first_cell cell (line_of cells) (All-head HasNoTab cell cells plain)
    ∙ ap (λ rest. cell ∷ rest) (cells_of_line cells (All-tail HasNoTab cell cells plain))

-- a tab makes a cell
pub few_cells : (line : Text) → length (cells_in line) ≤ length line
unfolding cells_in
few_cells [] = omega arith
few_cells (b ∷ line) = grind (arith, common_steps, few_cells line)

-- the cells are bytes of the line
pub cells_fit : (line : Text) → sum_by length (cells_in line) ≤ length line
unfolding cells_in
cells_fit [] = omega arith
cells_fit (b ∷ line) = grind (arith, common_steps, cells_fit line)

-- ---- a line with a tab after its last cell

some_cell : (line : Text) → (first : Text) × (others : Row) × (cells_of line ≡ first ∷ others)
unfolding cells_in
some_cell [] = ([], [], refl)
some_cell (b ∷ line) =
    let more = some_cell line in
    elim (b == tab) as (λ is. (first : Text) × (others : Row) × ((if is then [] ∷ cells_of line else prepended b (cells_of line)) ≡ first ∷ others)) [
      | true ↦ ([], cells_of line, refl)
      | false ↦ (b ∷ more.0, more.1, ap (prepended b) more.2)
    ]

pub no_line_closed : IsClosed []
unfolding cells_in
no_line_closed = refl

pub line_closed : (line : Text) → IsClosed (line ++ tab ∷ [])
unfolding cells_in
line_closed [] = refl
line_closed (b ∷ line) = grind (arith, common_steps, line_closed line)

-- between the cells there is one tab less
pub row_bytes_are : (line : Text) → row_bytes (cells_of line) ≡ length line
row_bytes_are line =
    let some = some_cell line in
    omega (arith, line_closed line, length-append line (tab ∷ []), ap length some.2)

-- a tab for each cell
pub tabs_are_cells : (line : Text) → count_by (λ b. b == tab) line ≡ length (cells_in line)
unfolding cells_in
tabs_are_cells [] = refl
tabs_are_cells (b ∷ line) = grind (arith, common_steps, tabs_are_cells line)

-- the field at a place, or no text
pub field_or_empty : (fields : Row) (at : ℕ) (found : Option (Bor Text)) (other : Bor Text) → option_map (λ field. field.now) found ≡ field_at fields at
    → other.now ≡ []
    → (unwrap_or found other).now ≡ get_or fields at []
unfolding field_at
field_or_empty [] at None other is empty = empty
field_or_empty [] at (Some field) other is empty = absurd (none-some field.now (sym is))
field_or_empty (cell ∷ fields) zero None other is empty = absurd (none-some cell is)
field_or_empty (cell ∷ fields) zero (Some field) other is empty = same_Some field.now cell is
field_or_empty (cell ∷ fields) (suc at) found other is empty = field_or_empty fields at found other is empty

-- the cells of the line at a place
pub cells_of_field : (lines : List Text) (at : ℕ) → cells_in (get_or lines at []) ≡ get_or (map cells_in lines) at []
cells_of_field [] at = no_cells
cells_of_field (line ∷ lines) zero = refl
cells_of_field (line ∷ lines) (suc at) = cells_of_field lines at
