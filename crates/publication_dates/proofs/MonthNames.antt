-- The names of months.
use Rattle.std.proofs.Common.{◌≡◌, ℕ, ◌+◌, ◌<◌, ◌≤◌, List, [], ◌∷◌, Bool, true, false, not, cond, Option, Some, None, length, refl, arith}
use Rattle.std.specs.Char.{is_ascii_digit, is_ascii_alphabetic}
use Rattle.std.proofs.lemmas.Bool.Decides.{nat_tests}
use Rattle.std.proofs.lemmas.List.Elements.{All-head, All-tail}
use Rattle.text_model.specs.Texts.{Text}
use Rattle.uri_text.specs.AnyCase.{begins_in_any_case}
use Rattle.publication_dates.specs.Forms.{AreDigits}
use Rattle.publication_dates.specs.Months.{month_names, words, number_from, month_of, first_month}

-- ---- numbers of months

number_at : (b : Bool) (i n : ℕ) (rest : Option ℕ) (high : ℕ) → i < high → (rest ≡ Some n → n < high) → cond b (Some i) rest ≡ Some n → n < high
number_at true i n rest high h more e = let same : i ≡ n = cc in omega arith
number_at false i n rest high h more e = more e

number_below : (word : Text) (names : List Text) (i n : ℕ) → number_from word i names ≡ Some n → n < i + length names
number_below word [] i n e = cc
number_below word (name ∷ names) i n e =
    number_at (begins_in_any_case name word) i n (number_from word (i + 1) names) (i + length (name ∷ names)) (omega arith)
    (λ more. let below = number_below word names (i + 1) n more in omega arith) e

month_at : (b : Bool) (word : Text) (n : ℕ) → cond b (number_from word 1 month_names) None ≡ Some n → n ≤ 12
month_at true word n e = let below = number_below word month_names 1 n e in omega arith
month_at false word n e = cc

pub month_below : (word : Text) (n : ℕ) → month_of word ≡ Some n → n ≤ 12
month_below word n e = month_at _ word n e

first_at : (b : Bool) (word : Text) (words : List Text) (n : ℕ) → (first_month words ≡ Some n → n ≤ 12)
    → cond b (month_of word) (first_month words) ≡ Some n → n ≤ 12
first_at true word words n rest e = month_below word n e
first_at false word words n rest e = rest e

pub first_below : (words : List Text) (n : ℕ) → first_month words ≡ Some n → n ≤ 12
first_below [] n e = cc
first_below (word ∷ words) n e = first_at _ word words n (λ more. first_below words n more) e

-- ---- no names in digits

digit_no_letter : (b : ℕ) → is_ascii_digit b ≡ true → not (is_ascii_alphabetic b) ≡ true
digit_no_letter b h = grind (arith, nat_tests)

pub no_month : (t : Text) → AreDigits t → first_month (words t) ≡ None
no_month [] digits = refl
no_month (b ∷ t) digits =
    let here = digit_no_letter b (All-head (λ b. is_ascii_digit b ≡ true) b t digits) in
    rw here (no_month t (All-tail (λ b. is_ascii_digit b ≡ true) b t digits))
