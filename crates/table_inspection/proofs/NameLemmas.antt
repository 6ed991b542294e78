-- A walk over the names of the standard.
use Rattle.std.proofs.Common.{Bor, ◌≡◌, ℕ, ◌+◌, ◌<◌, ◌&&◌, ◌||◌, Bool, true, false, zero, suc, List, [], ◌∷◌, length, take, get_or, refl}
use Rattle.std.proofs.lemmas.Grind.{common_steps}
use Rattle.std.proofs.Common.{ap, ◌∙◌, arith}
use Rattle.std.specs.List.{find, list_any}
use Rattle.std.specs.Str.{bytes_eq}
use Rattle.std.proofs.Math.Bool.{or-true}
use Rattle.text_model.specs.Texts.{Text, texts_of}
use Rattle.kbart_rows.specs.Cells.{Row}
use Rattle.standard_names.specs.Columns.{known_columns}
use Rattle.table_inspection.specs.Columns.{is_missing, meant, spelling}
use Rattle.table_inspection.proofs.OnLiterals.{on_literals}

-- the standard's names do not change when they are spelled
pub meant_is : (header : Row) (text : Text) → meant header text ≡ find (λ name. is_missing header name && bytes_eq (spelling text) name) known_columns
unfolding on_literals
meant_is header text = refl

pub any_step : (test : Text → Bool) (xs : List (Bor Text)) (i : ℕ) (d : Bor Text) → i < length xs → list_any test (texts_of (take i xs)) ≡ false
    → test (get_or xs i d).now ≡ false → list_any test (texts_of (take (i + 1) xs)) ≡ false
any_step test [] i d inside none fails = absurd (omega (arith, inside))
any_step test (x ∷ xs) zero d inside none fails = ap (λ b. b || false) fails
any_step test (x ∷ xs) (suc i) d inside none fails = grind (arith, common_steps)

pub any_here : (test : Text → Bool) (xs : List (Bor Text)) (i : ℕ) (d : Bor Text) → i < length xs → test (get_or xs i d).now ≡ true
    → list_any test (texts_of xs) ≡ true
any_here test [] i d inside passes = absurd (omega (arith, inside))
any_here test (x ∷ xs) zero d inside passes = ap (λ b. b || list_any test (texts_of xs)) passes
any_here test (x ∷ xs) (suc i) d inside passes = ap (λ later. test x.now || later) (any_here test xs i d (omega (arith, inside)) passes) ∙ or-true (test x.now)
