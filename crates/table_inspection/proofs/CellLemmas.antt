-- The cells of a line, from left to right.
use Rattle.std.proofs.Common.{◌≡◌, ℕ, ◌+◌, ◌-◌, ◌&&◌, ◌||◌, ◌==◌, ◌≤◌, Bool, true, false, not, zero, suc, List, [], ◌∷◌, length}
use Rattle.std.proofs.Common.{None, Some, add-one, ap, arith, drop, drop_of_length-le, refl, sym, ◌∙◌}
use Rattle.std.proofs.lemmas.Bool.{false≢true}
use Rattle.std.specs.List.{list_any, slice_get}
use Rattle.table_inspection.specs.Columns.{is_empty_text}
use Rattle.table_inspection.proofs.Ranges.{not_none}
use Rattle.text_model.specs.Texts.{Text}
use Rattle.text_model.proofs.Lists.{drop_from, past_end as past_the_last}
use Rattle.kbart_rows.specs.Cells.{Row}

-- ---- cells past that many

abbrev pub any_text : Row → Bool
any_text cells = list_any (λ cell. not (is_empty_text cell)) cells

pub past_found : (left : ℕ) (cell : Text) (rest : Row) → (left == 0 && not (is_empty_text cell)) ≡ true → any_text (drop left (cell ∷ rest)) ≡ true
past_found zero cell rest is = ap (λ b. b || any_text rest) is
past_found (suc left) cell rest is =
    let no = not_none left in
    let never : false ≡ true = ap (λ b. b && not (is_empty_text cell)) (sym no) ∙ is in
    absurd (false≢true never)

pub past_continues : (left : ℕ) (cell : Text) (rest : Row) → (left == 0 && not (is_empty_text cell)) ≡ false
    → any_text (drop left (cell ∷ rest)) ≡ any_text (drop (left - 1) rest)
past_continues zero cell rest is = ap (λ b. b || any_text rest) is
past_continues (suc left) cell rest is =
    let one : left ≡ suc left - 1 = omega arith in
    ap (λ n. any_text (drop n rest)) one

pub none_past : (width : ℕ) (cells : Row) → length cells ≤ width → any_text (drop width cells) ≡ false
none_past zero [] le = refl
none_past (suc width) [] le = refl
none_past zero (cell ∷ cells) le = absurd (omega (arith, le))
none_past (suc width) (cell ∷ cells) le = none_past width cells (omega (arith, le))

-- the item at a place is the first of what is left
pub left_at : {X : Type 0} (xs : List X) (place : ℕ) (x : X) → slice_get xs place ≡ Some x → drop place xs ≡ x ∷ drop (place + 1) xs
left_at xs place x is = drop_from xs place x is ∙ ap (λ n. x ∷ drop n xs) (sym (add-one place))

-- past the last there is nothing left
pub none_left : {X : Type 0} (xs : List X) (place : ℕ) → slice_get xs place ≡ None → drop place xs ≡ []
none_left xs place is = drop_of_length-le xs (past_the_last xs place is)

pub header_end : {X : Type 0} (xs : List X) (place : ℕ) → place ≤ length xs → slice_get xs place ≡ None → place ≡ length xs
header_end xs place within is = omega (arith, within, past_the_last xs place is)
