-- Ranges, and the identifiers of a row.
use Rattle.std.proofs.Common.{◌≡◌, ℕ, ◌+◌, ◌||◌, zero, suc, [], ◌∷◌, ◌++◌, Option, Some, None, refl, ap, ◌∙◌, arith}
use Rattle.std.specs.List.{cons_option, list_any, range_with_len}
use Rattle.std.specs.Str.{bytes_eq}
use Rattle.std.proofs.Math.Bool.{or-false}
use Rattle.text_model.specs.Texts.{Text}
use Rattle.kbart_rows.specs.Private.Kept.{is_id}

-- ---- ranges

-- a number and those around it
pub range_parts : (first n m : ℕ) → range_with_len first (n + suc m) ≡ range_with_len first n ++ (first + n) ∷ range_with_len (first + n + 1) m
range_parts first zero m =
    let size : zero + suc m ≡ suc m = omega arith in
    let start : first ≡ first + zero = omega arith in
    ap (range_with_len first) size ∙ ap (λ at. at ∷ range_with_len (at + 1) m) start
range_parts first (suc n) m =
    let size : suc n + suc m ≡ suc (n + suc m) = omega arith in
    let start : first + 1 + n ≡ first + suc n = omega arith in
    ap (range_with_len first) size ∙ ap (λ rest. first ∷ rest) (range_parts (first + 1) n m)
    ∙ ap (λ at. first ∷ (range_with_len (first + 1) n ++ at ∷ range_with_len (at + 1) m)) start

-- ---- two identifiers

pub one_of_two : (text : Text) (a b : Option Text) → list_any (bytes_eq text) (cons_option a (cons_option b [])) ≡ (is_id text a || is_id text b)
one_of_two text None None = refl
one_of_two text None (Some b) = or-false (bytes_eq text b)
one_of_two text (Some a) None = refl
one_of_two text (Some a) (Some b) = ap (λ later. bytes_eq text a || later) (or-false (bytes_eq text b))
