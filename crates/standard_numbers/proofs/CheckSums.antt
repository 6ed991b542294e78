-- The check digit that follows twelve digits makes the sum of all a multiple of ten.
use Rattle.std.proofs.Common.{◌≡◌, ℕ, zero, suc, ◌+◌, ◌-◌, ◌*◌, ◌%◌, ◌<◌, ◌≤◌, [], ◌∷◌, ◌++◌, true, length, take, refl, ◌∙◌, lit≤, arith, length-append}
use Rattle.std.specs.Prelude.{codes}
use Rattle.std.specs.Char.{is_ascii_digit}
use Rattle.std.specs.List.{list_all}
use Rattle.std.proofs.lemmas.Bool.Decides.{nat_tests}
use Rattle.std.proofs.lemmas.Bool.{and_from, eq-eqb}
use Rattle.std.proofs.lemmas.List.{length-take}
use Rattle.std.proofs.lemmas.List.Folds.{list_all-append}
use Rattle.text_model.specs.Texts.{Text}
use Rattle.standard_numbers.specs.Spellings.{are_digits}
use Rattle.standard_numbers.specs.CheckDigits.{value, alternating}
use Rattle.standard_numbers.specs.Isbn.{check_digit, is_isbn, is_right_isbn, isbn13_of}
use Rattle.standard_numbers.proofs.Forms.{length_of_digits, front_digits}

-- the weight after each value of a text
abbrev weight_after : ℕ → Text → ℕ
weight_after weight [] = weight
weight_after weight (b ∷ t) = weight_after (4 - weight) t

alternating-append : (weight : ℕ) (t : Text) (b : ℕ) → alternating weight (t ++ b ∷ []) ≡ alternating weight t + weight_after weight t * value b
alternating-append weight [] b = omega arith
alternating-append weight (c ∷ t) b = let h = alternating-append (4 - weight) t b in omega arith

weight_after-even : (n weight : ℕ) (t : Text) → length t ≡ n + n → weight ≤ 4 → weight_after weight t ≡ weight
weight_after-even n weight [] h small = refl
weight_after-even n weight (b ∷ []) h small = absurd (omega arith)
weight_after-even zero weight (b ∷ c ∷ t) h small = absurd (omega arith)
weight_after-even (suc n) weight (b ∷ c ∷ t) h small =
    let e : 4 - (4 - weight) ≡ weight = omega arith in
    rw e (weight_after-even n weight t (omega arith) small)

-- what is missing to a multiple of ten
completed : (n : ℕ) → (n + (10 - n % 10) % 10) % 10 ≡ 0
completed n = omega arith

value_of_digit : (k : ℕ) → k < 10 → value (0x30 + k) ≡ k
value_of_digit k h = grind (arith, nat_tests)

digit_from : (k : ℕ) → k < 10 → is_ascii_digit (0x30 + k) ≡ true
digit_from k h = grind (arith, nat_tests)

together : (a s w v k : ℕ) → a ≡ s + w * v → w ≡ 1 → v ≡ k → (s + k) % 10 ≡ 0 → a % 10 ≡ 0
together a s w v k p q r h = let e : a ≡ s + k = rw (p, q, r) (omega arith) in rw e h

checked_sum : (t : Text) → length t ≡ 12 → alternating 1 (t ++ check_digit t ∷ []) % 10 ≡ 0
checked_sum t h =
    let all = alternating-append 1 t (check_digit t) in
    let one = weight_after-even 6 1 t h (lit≤ tt) in
    let last = value_of_digit ((10 - alternating 1 t % 10) % 10) (omega arith) in
    let whole = completed (alternating 1 t) in
    together _ _ _ _ _ all one last whole

long_13 : (digits : Text) → are_digits 10 digits ≡ true → length (isbn13_of digits) ≡ 13
long_13 digits h =
    let long : length digits ≡ 10 = length_of_digits digits 10 h in
    let nine : length (take 9 digits) ≡ 9 = simp length-take (omega arith) in
    simp length-append (omega arith)

-- the ISBN of 13 digits of one of ten is one
pub isbn13_is : (digits : Text) → are_digits 10 digits ≡ true → is_isbn (isbn13_of digits) ≡ true
isbn13_is digits h =
    let body : Text = codes "978" ++ take 9 digits in
    let check : is_ascii_digit (check_digit body) ≡ true = digit_from ((10 - alternating 1 body % 10) % 10) (omega arith) in
    let all : list_all is_ascii_digit (take 9 digits ++ check_digit body ∷ []) ≡ true =
    list_all-append is_ascii_digit (take 9 digits) (check_digit body ∷ [])
    ∙ and_from _ _ (front_digits digits 9 h) (and_from _ _ check refl) in
    and_from _ _ (and_from _ _ (eq-eqb _ _ (long_13 digits h)) all) refl

-- and has the right check digit
pub isbn13_is_right : (digits : Text) → are_digits 10 digits ≡ true → is_right_isbn (isbn13_of digits) ≡ true
isbn13_is_right digits h =
    let body : Text = codes "978" ++ take 9 digits in
    let long : length digits ≡ 10 = length_of_digits digits 10 h in
    let nine : length (take 9 digits) ≡ 9 = simp length-take (omega arith) in
    let twelve : length body ≡ 12 = simp length-append (omega arith) in
    rw (eq-eqb _ _ (long_13 digits h)) (eq-eqb _ _ (checked_sum body twelve))
