-- The names of a set: as texts, one more, and as the columns of a table.
use Rattle.std.proofs.Common.{◌≡◌, ◌||◌, ℕ, ◌+◌, Bool, true, false, cond, List, [], ◌∷◌, ◌++◌, length, take, Some, String, Global, string_bytes}
use Rattle.std.proofs.Common.{is_some, refl, sym, ap, ◌∙◌, arith, fold, append_assoc, if◌then◌else◌}
use Rattle.std.proofs.lemmas.Grind.{common_steps}
use Rattle.std.proofs.lemmas.Iterator.Adapters.{position_from-zero}
use Rattle.std.proofs.lemmas.List.{append-nil, map-append}
use Rattle.std.proofs.lemmas.List.Folds.{list_any-append}
use Rattle.std.proofs.lemmas.Slice.Eq.{bytes_eq-Decides}
use Rattle.std.proofs.Math.Seq.{take-append_seam}
use Rattle.std.specs.List.{list_any, position, position_from}
use Rattle.std.specs.Str.{bytes_eq}
use Rattle.indexmap.specs.IndexSet.{insert_key}
use Rattle.text_model.specs.Texts.{Text}
use Rattle.kbart_rows.specs.Cells.{Row, column_of}
use Rattle.kbart_rows.specs.NameSets.{has, with_name, with_names}
use Rattle.kbart_rows.specs.Private.NameSetTexts.{texts_in}

-- ---- as texts

pub any_text : (test : Text → Bool) (names : List (String Global)) → list_any (λ name. test (string_bytes name)) names ≡ list_any test (texts_in names)
any_text test [] = refl
any_text test (name ∷ names) = ap (λ found. test (string_bytes name) || found) (any_text test names)

position_from_texts : (names : List (String Global)) (name : Text) (first : ℕ)
    → position_from (λ other. bytes_eq name (string_bytes other)) first names ≡ position_from (bytes_eq name) first (texts_in names)
position_from_texts [] name first = refl
position_from_texts (other ∷ names) name first =
    ap (λ found. cond (bytes_eq name (string_bytes other)) (Some first) found) (position_from_texts names name (first + 1))

pub position_in_texts : (names : List (String Global)) (name : Text)
    → position (λ other. bytes_eq name (string_bytes other)) names ≡ position (bytes_eq name) (texts_in names)
position_in_texts names name =
    position_from-zero (λ (other : String Global). bytes_eq name (string_bytes other)) names
    ∙ position_from_texts names name 0 ∙ sym (position_from-zero (bytes_eq name) (texts_in names))

pub inserted : (names : List (String Global)) (name : String Global)
    → texts_in (insert_key (λ a b. bytes_eq (string_bytes a) (string_bytes b)) names name) ≡ with_name (texts_in names) (string_bytes name)
inserted names name =
    push (list_any (λ other. bytes_eq (string_bytes name) (string_bytes other)) names)
    ∙ ap (λ found. if found then texts_in names else texts_in names ++ string_bytes name ∷ [])
    (any_text (bytes_eq (string_bytes name)) names)
  where
    push : (found : Bool)
        → texts_in (if found then names else names ++ name ∷ []) ≡ (if found then texts_in names else texts_in names ++ string_bytes name ∷ [])
    push found = grind (arith, common_steps, map-append)

-- ---- more names

-- what only adds names after the others
module _ (step : List Text → Text → List Text) (grows : (names : List Text) (name : Text) → (rest : List Text) × (step names name ≡ names ++ rest)) where
  pub all_grow : (names more : List Text) → (rest : List Text) × (fold step names more ≡ names ++ rest)
  all_grow names [] = ([], sym (append-nil names))
  all_grow names (name ∷ more) =
      let one = grows names name in
      let others = all_grow (step names name) more in
      (one.0 ++ others.0, others.1 ∙ ap (λ so_far. so_far ++ others.0) one.1 ∙ append_assoc names one.0 others.0)

  pub first_stay : (names more : List Text) → take (length names) (fold step names more) ≡ names
  first_stay names more =
      let all = all_grow names more in
      ap (take (length names)) all.1 ∙ take-append_seam names all.0

pub one_grows : (names : List Text) (name : Text) → (rest : List Text) × (with_name names name ≡ names ++ rest)
one_grows names name = by (has names name)
  where
    by : (found : Bool) → (rest : List Text) × ((if found then names else names ++ name ∷ []) ≡ names ++ rest)
    by true = ([], sym (append-nil names))
    by false = (name ∷ [], refl)

-- ---- columns

pub found_from : (test : Text → Bool) (first : ℕ) (names : List Text) → is_some (position_from test first names) ≡ list_any test names
found_from test first [] = refl
found_from test first (name ∷ names) = grind (arith, common_steps, found_from test (first + 1) names)

has_one_more : (names : List Text) (other name : Text) → has (with_name names other) name ≡ (has names name || bytes_eq name other)
has_one_more names other name = by (has names other) refl
  where
    by : (found : Bool) → has names other ≡ found
        → has (if found then names else names ++ other ∷ []) name ≡ (has names name || bytes_eq name other)
    by true there = grind (arith, common_steps, there, bytes_eq-Decides)
    by false none = grind (arith, common_steps, list_any-append)

has_more : (names more : List Text) (name : Text) → has (with_names names more) name ≡ (has names name || has more name)
has_more names [] name = grind (arith, common_steps)
has_more names (other ∷ more) name = grind (arith, common_steps, has_more (with_name names other) more name, has_one_more names other name)

-- the names with those of a header have each of its columns
pub has_columns : (names : List Text) (header : Row) (name : Text) → has (with_names names header) name ≡ (has names name || is_some (column_of header name))
has_columns names header name =
    has_more names header name
    ∙ ap (λ found. has names name || found) (sym (ap is_some (position_from-zero (bytes_eq name) header) ∙ found_from (bytes_eq name) 0 header))
