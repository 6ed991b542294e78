-- The cells of small tables, and an environment after they are added, computed.
use Rattle.std.proofs.Common.{◌≡◌, [], ◌∷◌, ◌++◌, length, Some, None, refl, codes, arith, ap}
use Rattle.std.specs.Prelude.{map, filter, ◌==◌}
use Rattle.std.specs.List.{range_with_len}
use Rattle.std.specs.Hash.DefaultHasher.{initial, write}
use Rattle.std.specs.Hash.{le_bytes}
use Rattle.text_model.specs.Texts.{Text}
use Rattle.environment_model.specs.Environment.{Environment, Entry, Single, Several}
use Rattle.target_vars.specs.declared.error.VarsError.TheVariants.{TooLarge}
use Rattle.kbart_rows.specs.Cells.{Row, NamedCell, row_bytes, column_of, defined, cell_in, cell_of, named_cells, cell_bytes}
use Rattle.kbart_rows.specs.Filling.{with_named_cells, StopsAtCell}
use Rattle.kbart_rows.specs.Hashing.{keyed}
use Rattle.kbart_rows.specs.Lines.{cells_in, IsCellAt}
use Rattle.kbart_rows.proofs.OnLiterals.{kbart_rows_on_literals}

-- ---- the cells of a line

tab_follows_each_cell : map cells_in ([] ∷ codes "\t" ∷ codes "a\t" ∷ codes "a\tb\t" ∷ codes "\t\ta b\t" ∷ [])
    ≡ [] ∷ ([] ∷ []) ∷ (codes "a" ∷ []) ∷ (codes "a" ∷ codes "b" ∷ []) ∷ ([] ∷ [] ∷ codes "a b" ∷ []) ∷ []
unfolding kbart_rows_on_literals
tab_follows_each_cell = refl

nothing_is_trimmed_or_quoted : cells_in (codes " x \ty \t\"a\tb\"\t#\t") ≡ codes " x " ∷ codes "y " ∷ codes "\"a" ∷ codes "b\"" ∷ codes "#" ∷ []
unfolding kbart_rows_on_literals
nothing_is_trimmed_or_quoted = refl

only_tabs_part_cells : filter (λ b. length (cells_in (b ∷ codes "\t")) == 2) (range_with_len 0 256) ≡ codes "\t"
unfolding kbart_rows_on_literals
only_tabs_part_cells = refl

cells_at_their_places : IsCellAt (codes "ab\t\tc\t") 0 0 2 × IsCellAt (codes "ab\t\tc\t") 1 3 0 × IsCellAt (codes "ab\t\tc\t") 2 4 1
unfolding kbart_rows_on_literals
cells_at_their_places = (record { within = omega arith; is = refl }, record { within = omega arith; is = refl }, record { within = omega arith; is = refl })

missing_cell_is_empty : IsCellAt (codes "ab\t\tc\t") 3 6 0 × ¬ (IsCellAt (codes "ab\t\tc\t") 3 4 1) × ¬ (IsCellAt (codes "ab\t\tc\t") 3 7 0)
unfolding kbart_rows_on_literals
missing_cell_is_empty = (record { within = omega arith; is = refl }, λ at. omega (arith, ap length at.is), λ at. omega (arith, at.within))

bytes_of_cells_and_tabs : map row_bytes ([] ∷ ([] ∷ []) ∷ ([] ∷ [] ∷ []) ∷ (codes "ab" ∷ codes "c" ∷ []) ∷ (codes "a" ∷ [] ∷ codes "c" ∷ []) ∷ [])
    ≡ 0 ∷ 0 ∷ 1 ∷ 4 ∷ 4 ∷ []
bytes_of_cells_and_tabs = refl

-- ---- the cell of a name

abbrev header : Row
header = codes "a" ∷ codes "b" ∷ codes "a" ∷ [] ∷ [] ∷ []

columns_of_names : map (column_of header) (codes "a" ∷ codes "b" ∷ [] ∷ codes "A" ∷ codes " a" ∷ codes "aa" ∷ codes "c" ∷ [])
    ≡ Some 0 ∷ Some 1 ∷ Some 3 ∷ None ∷ None ∷ None ∷ None ∷ []
columns_of_names = refl

empty_cells_are_undefined : map defined ([] ∷ codes " " ∷ codes "-" ∷ codes " x " ∷ []) ≡ None ∷ Some (codes " ") ∷ Some (codes "-") ∷ Some (codes " x ") ∷ []
empty_cells_are_undefined = refl

cells_of_columns : map (cell_in (codes "1" ∷ [] ∷ codes "3" ∷ [])) (Some 0 ∷ Some 1 ∷ Some 2 ∷ Some 3 ∷ None ∷ [])
    ≡ Some (codes "1") ∷ None ∷ Some (codes "3") ∷ None ∷ None ∷ []
cells_of_columns = refl

-- the first column with a name counts, even if its cell is empty
cells_of_names : map (λ cells. map (cell_of header cells) (codes "a" ∷ codes "b" ∷ [] ∷ codes "c" ∷ []))
    ((codes "1" ∷ codes "2" ∷ codes "3" ∷ codes "4" ∷ codes "5" ∷ codes "6" ∷ []) ∷ ([] ∷ codes "2" ∷ codes "3" ∷ []) ∷ [] ∷ [])
    ≡ (Some (codes "1") ∷ Some (codes "2") ∷ Some (codes "4") ∷ None ∷ []) ∷ (None ∷ Some
    (codes "2") ∷ None ∷ None ∷ []) ∷ (None ∷ None ∷ None ∷ None ∷ []) ∷ []
cells_of_names = refl

-- ---- all cells that are defined

abbrev cell : Text → Text → NamedCell
cell name text = record { name = name; text = text }

-- the first column of each name, and no column beyond the header
named_cells_of_rows : map (named_cells header)
    ((codes "1" ∷ codes "2" ∷ codes "3" ∷ codes "4" ∷ codes "5" ∷ codes "6" ∷ []) ∷ ([] ∷ codes "2" ∷ codes "3" ∷ []) ∷ [] ∷ [])
    ≡ (cell (codes "a") (codes "1") ∷ cell (codes "b") (codes "2") ∷ cell [] (codes "4") ∷ []) ∷ (cell (codes "b") (codes "2") ∷ []) ∷ [] ∷ []
named_cells_of_rows = refl

spaces_stay : named_cells (codes "x" ∷ codes "y" ∷ []) (codes " x " ∷ codes "y " ∷ []) ≡ cell (codes "x") (codes " x ") ∷ cell (codes "y") (codes "y ") ∷ []
spaces_stay = refl

spaces_are_counted : cell_bytes (named_cells (codes "x" ∷ codes "y" ∷ []) (codes " x " ∷ codes "y " ∷ [])) ≡ 5
spaces_are_counted = refl

names_are_not_counted : map (λ cells. cell_bytes (named_cells header cells))
    ((codes "1" ∷ codes "22" ∷ codes "333" ∷ codes "4444" ∷ codes "5" ∷ codes "6" ∷ []) ∷ ([] ∷ codes "22" ∷ codes "333" ∷ []) ∷ [] ∷ []) ≡ 7 ∷ 2 ∷ 0 ∷ []
names_are_not_counted = refl

-- ---- filling

abbrev text : Text → Text → Entry
text name t = record { name = name; meaning = Single t }

-- the environment after a row ` x `, `y ` under these names
abbrev filled_under : Row → Environment → Environment
filled_under names env = with_named_cells env (named_cells names (codes " x " ∷ codes "y " ∷ []))

cells_come_in_order : filled_under (codes "y" ∷ codes "x" ∷ codes "z" ∷ []) [] ≡ text (codes "y") (codes " x ") ∷ text (codes "x") (codes "y ") ∷ []
unfolding kbart_rows_on_literals
cells_come_in_order = refl

first_column_of_a_name_fills : filled_under (codes "x" ∷ codes "x" ∷ []) [] ≡ text (codes "x") (codes " x ") ∷ []
unfolding kbart_rows_on_literals
first_column_of_a_name_fills = refl

-- texts, lists and empty texts
abbrev before : Environment
before = record { name = codes "x"; meaning = Several (codes "0" ∷ []) } ∷ text (codes "y") [] ∷ []

what_was_there_stays : filled_under (codes "x" ∷ codes "y" ∷ []) before ≡ before
unfolding kbart_rows_on_literals
what_was_there_stays = refl

other_names_are_new : filled_under (codes "X" ∷ codes "y " ∷ []) before ≡ before ++ text (codes "X") (codes " x ") ∷ text (codes "y ") (codes "y ") ∷ []
unfolding kbart_rows_on_literals
other_names_are_new = refl

abbrev long : Text → Environment
long t = text (codes "t") t ∷ []

-- the first cell fits, the name of the second is already defined, and the third is rejected
filling_stops_at_a_refused_cell : (t : Text) → length t ≡ 1048575
    → StopsAtCell (long t) (cell (codes "x") (codes "1") ∷ cell (codes "t") (codes "2") ∷ cell (codes "y") (codes "3") ∷ cell (codes "z") (codes "4") ∷ [])
    (long t ++ text (codes "x") (codes "1") ∷ []) TooLarge
unfolding kbart_rows_on_literals
filling_stops_at_a_refused_cell t is_long = record {
  before = cell (codes "x") (codes "1") ∷ cell (codes "t") (codes "2") ∷ [];
  refused = cell (codes "y") (codes "3");
  after = cell (codes "z") (codes "4") ∷ [];
  in_order = refl;
  reached = refl;
  is_new = refl;
  too_large = (λ _. omega (arith, is_long), λ _. refl);
}

-- ---- hashing

-- the first number and then the second, each as eight bytes, the lowest first
keys_are_two_numbers : keyed 1 0x0203 ≡ write initial (1 ∷ 0 ∷ 0 ∷ 0 ∷ 0 ∷ 0 ∷ 0 ∷ 0 ∷ 3 ∷ 2 ∷ 0 ∷ 0 ∷ 0 ∷ 0 ∷ 0 ∷ 0 ∷ [])
unfolding write le_bytes
keys_are_two_numbers = refl
