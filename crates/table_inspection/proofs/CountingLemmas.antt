-- Different identifiers, row by row.
use Rattle.std.proofs.Common.{◌≡◌, ℕ, ◌+◌, ◌||◌, ◌++◌, Bool, true, false, not, cond, List, [], ◌∷◌, length, Option, None, Some, refl, sym, ap, ◌∙◌, arith}
use Rattle.std.proofs.lemmas.Grind.{common_steps}
use Rattle.std.proofs.Common.{◌==◌, ◌&&◌, if◌then◌else◌, append-nil, length-append}
use Rattle.std.specs.Prelude.{filter}
use Rattle.std.specs.List.{list_any}
use Rattle.std.specs.Option.{option_to_list}
use Rattle.std.specs.Str.{bytes_eq}
use Rattle.std.proofs.lemmas.Grind.{flat_map-append}
use Rattle.std.proofs.lemmas.List.Elements.{filter-append}
use Rattle.std.proofs.Math.Bool.{or-false}
use Rattle.text_model.specs.Texts.{Text}
use Rattle.kbart_rows.specs.Cells.{Row, cell_in, defined}
use Rattle.table_inspection.specs.Columns.{is_empty_text}
use Rattle.table_inspection.specs.Private.Forms.{normal_form}
use Rattle.table_inspection.proofs.Ranges.{not_none}
use Rattle.table_inspection.specs.Identifiers.{identifiers_of, distinct, row_identifiers}
use Rattle.table_inspection.specs.Private.Counting.{is_same_id, new_among}

-- ---- different texts

left_of : (t x : Text) (before : Bool) → filter (λ other. not (bytes_eq other t)) (if before then [] else x ∷ [])
    ≡ (if bytes_eq x t || before then [] else x ∷ [])
left_of t x true = elim (bytes_eq x t) as (λ b. [] ≡ (if b || true then [] else x ∷ [])) [ true ↦ refl | false ↦ refl ]
left_of t x false = elim (bytes_eq x t) as (λ b. cond (not b) (x ∷ []) [] ≡ (if b || false then [] else x ∷ [])) [ true ↦ refl | false ↦ refl ]

pub distinct_more : (texts : List Text) (x : Text) → distinct (texts ++ x ∷ []) ≡ distinct texts ++ (if list_any (bytes_eq x) texts then [] else x ∷ [])
unfolding distinct
distinct_more [] x = refl
distinct_more (t ∷ texts) x =
    ap (λ rest. t ∷ filter (λ other. not (bytes_eq other t)) rest) (distinct_more texts x)
    ∙ ap (λ rest. t ∷ rest) (filter-append (λ other. not (bytes_eq other t)) (distinct texts) (if list_any (bytes_eq x) texts then [] else x ∷ []))
    ∙ ap (λ rest. t ∷ (filter (λ other. not (bytes_eq other t)) (distinct texts) ++ rest)) (left_of t x (list_any (bytes_eq x) texts))

pub distinct_option : (texts : List Text) (id : Option Text)
    → length (distinct (texts ++ option_to_list id)) ≡ length (distinct texts) + new_among (λ x. list_any (bytes_eq x) texts) id
distinct_option texts None = ap (λ xs. length (distinct xs)) (append-nil texts) ∙ omega arith
distinct_option texts (Some x) = grind (arith, distinct_more, length-append)

-- ---- the identifiers of a row

pub is_in_option : (id : Text) (o : Option Text) → list_any (bytes_eq id) (option_to_list o) ≡ is_same_id id o
is_in_option id None = refl
is_in_option id (Some x) = or-false (bytes_eq id x)

-- ---- one more row

pub identifiers_more : (columns : List (Option ℕ)) (rows : List Row) (cells : Row)
    → identifiers_of columns (rows ++ cells ∷ []) ≡ identifiers_of columns rows ++ row_identifiers columns cells
unfolding identifiers_of
identifiers_more columns rows cells =
    flat_map-append (row_identifiers columns) rows (cells ∷ []) ∙ ap (λ last. identifiers_of columns rows ++ last) (append-nil (row_identifiers columns cells))

-- ---- identifiers that may be empty

pub identifiers_of_two : (a b : Option ℕ) (cells : Row) (first second : Text) → first ≡ normal_form (cell_in cells a)
    → second ≡ normal_form (cell_in cells b)
    → row_identifiers (a ∷ b ∷ []) cells ≡ option_to_list (defined first) ++ option_to_list (defined second)
identifiers_of_two a b cells first second first_is second_is = grind (arith, common_steps)

pub none_of_two : (first second : Text) → (is_empty_text first && is_empty_text second)
    ≡ (length (option_to_list (defined first) ++ option_to_list (defined second)) == 0)
none_of_two [] [] = refl
none_of_two [] (b ∷ text) = not_none (length text)
none_of_two (b ∷ text) second =
    ap (λ empty. empty && is_empty_text second) (not_none (length text)) ∙ sym (not_none (length (option_to_list (defined second))))
