-- A walk over the names of a header: the first column of each.
use Rattle.std.proofs.Common.{◌≡◌, ℕ, ◌+◌, ◌<◌, ◌||◌, Bool, suc, List, [], ◌∷◌, ◌++◌, length, take, drop, get_or, Option, Some, None}
use Rattle.std.proofs.Common.{is_some, sym, ap, ◌∙◌, arith, if◌then◌else◌}
use Rattle.std.proofs.lemmas.Iterator.Adapters.{position_from-zero}
use Rattle.std.proofs.lemmas.List.{drop_more, length-drop, take_all, take_more, length-take-le}
use Rattle.std.proofs.lemmas.Option.{get_or_from_slice_get, slice_get_within}
use Rattle.std.specs.List.{position_from, slice_get}
use Rattle.std.specs.Option.{unwrap_or}
use Rattle.std.specs.Str.{bytes_eq}
use Rattle.std.proofs.lemmas.Grind.{common_steps}
use Rattle.text_model.specs.Texts.{Text}
use Rattle.text_model.proofs.Lists.{same_parts}
use Rattle.kbart_rows.specs.Cells.{Row, column_of}

-- ---- the first of what is left

-- x is at the place, and the rest is after it
pub record IsAt {X : Type 0} (xs : List X) (place : ℕ) (x : X) (rest : List X) : Type 0 where
  pub inside : place < length xs
  pub is : (d : X) → get_or xs place d ≡ x
  pub after : rest ≡ drop (place + 1) xs
  pub passed : take (place + 1) xs ≡ take place xs ++ x ∷ []

pub item_at : {X : Type 0} (xs : List X) (place : ℕ) (x : X) (rest : List X) → x ∷ rest ≡ drop place xs → IsAt xs place x rest
item_at xs place x rest e =
    let long : suc (length rest) ≡ length (drop place xs) = ap length e in
    let size = length-drop place xs in
    let within : place < length xs = omega (arith, long, size) in
    let here : (d : _) → (x ≡ get_or xs place d) × (rest ≡ drop (place + 1) xs) = λ d. same_parts x (get_or xs place d) rest (drop (place + 1) xs)
    (e ∙ drop_more xs place d within) in
    record {
      inside = within;
      is = λ d. sym (here d).0;
      after = (here x).1;
      passed = take_more xs place x within ∙ ap (λ y. take place xs ++ y ∷ []) (sym (here x).0);
    }

-- nothing is left
pub all_passed : {X : Type 0} (xs : List X) (place : ℕ) → [] ≡ drop place xs → take place xs ≡ xs
all_passed xs place e =
    let none : 0 ≡ length (drop place xs) = ap length e in
    take_all place xs (omega (arith, none, length-drop place xs))

-- ---- one more name

abbrev pub or_else : Option ℕ → Option ℕ → Option ℕ
or_else None other = other
or_else (Some column) other = Some column

position_more : (test : Text → Bool) (first : ℕ) (names : Row) (name : Text)
    → position_from test first (names ++ name ∷ []) ≡ or_else (position_from test first names) (if test name then Some (first + length names) else None)
position_more test first [] name = ap (λ column. if test name then Some column else None) (omega arith)
position_more test first (other ∷ names) name = grind (arith, common_steps, position_more test (first + 1) names name)

pub column_more : (names : Row) (name other : Text) → column_of (names ++ name ∷ []) other
    ≡ or_else (column_of names other) (if bytes_eq other name then Some (length names) else None)
column_more names name other = grind (arith, position_from-zero, position_more)

-- whether the next column has the name
pub name_known : (header : Row) (column : ℕ) (name other : Text) → slice_get header column ≡ Some name
    → is_some (column_of (take (column + 1) header) other) ≡ (is_some (column_of (take column header) other) || bytes_eq other name)
name_known header column name other at =
    let before = take column header in
    let names = take_more header column name (slice_get_within header column name at)
    ∙ ap (λ text. before ++ text ∷ []) (get_or_from_slice_get header column name name at) in
    ap (λ names. is_some (column_of names other)) names ∙ ap is_some (column_more before name other)
    ∙ either (column_of before other) (bytes_eq other name) (length before)
  where
    either : (found : Option ℕ) (is : Bool) (column : ℕ) → is_some (or_else found (if is then Some column else None)) ≡ (is_some found || is)
    either found is column = grind (arith, common_steps)

entered : (found : Option ℕ) (is : Bool) (column : ℕ) → (if is then Some (unwrap_or found column) else found) ≡ or_else found (if is then Some column else None)
entered found is column = grind (arith, common_steps)

-- the look-up of a name after one more column was entered
pub column_entered : (header : Row) (column : ℕ) (name other : Text) (rest : Row) (found : Option ℕ) → IsAt header column name rest
    → found ≡ column_of (take column header) other
    → (if bytes_eq other name then Some (unwrap_or found column) else found) ≡ column_of (take (column + 1) header) other
column_entered header column name other rest found at so_far =
    let size = length-take-le column header (omega arith) in
    entered found (bytes_eq other name) column
    ∙ ap (λ before. or_else before (if bytes_eq other name then Some column else None)) so_far
    ∙ ap (λ place. or_else (column_of (take column header) other) (if bytes_eq other name then Some place else None)) (sym size)
    ∙ sym (column_more (take column header) name other)
    ∙ ap (λ names. column_of names other) (sym at.passed)
