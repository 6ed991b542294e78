-- The first and the last day of a date are days of it.
use Rattle.std.proofs.Common.{◌≡◌, ℕ, ◌+◌, ◌/◌, ◌%◌, ◌<◌, ◌≤◌, [], ◌∷◌, ◌++◌, Bool, true, false, not, cond, eqb, length, drop, take, arith}
use Rattle.std.proofs.Common.{refl, ap, ◌∙◌, sym, subst, append_assoc}
use Rattle.std.specs.Char.{is_ascii_digit}
use Rattle.std.specs.List.{All, filter}
use Rattle.std.proofs.Math.Seq.{take-append_seam, drop-append_seam}
use Rattle.std.proofs.lemmas.Bool.{and_parts, eqb-true}
use Rattle.std.proofs.lemmas.Bool.Decides.{nat_tests}
use Rattle.std.proofs.lemmas.List.{append-nil, length-append}
use Rattle.std.proofs.lemmas.List.Elements.{All-weaker, All-cons, All-nil, filter-append}
use Rattle.text_model.proofs.Lists.{filter_all}
use Rattle.text_model.specs.Texts.{Text}
use Rattle.publication_dates.specs.Calendar.{hyphen, zero_digit, is_between, year_value, value, days_of}
use Rattle.publication_dates.specs.Days as spec
use Rattle.publication_dates.specs.Days.{IsDay, day_of, IsOf}
use Rattle.publication_dates.specs.Forms.{AreDigits, IsYear, IsTwo, IsDate, year_alone, with_month, with_day}

abbrev PassesDigit : ℕ → Type 0
PassesDigit b = is_ascii_digit b ≡ true

no_hyphen : (b : ℕ) → is_ascii_digit b ≡ true → not (eqb b hyphen) ≡ true
no_hyphen b h = grind (arith, nat_tests)

digits_stay : (t : Text) → AreDigits t → spec.basic t ≡ t
digits_stay t digits = filter_all (λ b. not (eqb b hyphen)) t (All-weaker PassesDigit (λ b. not (eqb b hyphen) ≡ true) no_hyphen t digits)

after_hyphen : (t m : Text) → AreDigits m → spec.basic (t ++ hyphen ∷ m) ≡ spec.basic t ++ m
after_hyphen t m digits = filter-append (λ b. not (eqb b hyphen)) t (hyphen ∷ m) ∙ ap (λ rest. spec.basic t ++ rest) (digits_stay m digits)

basic_year : (y : Text) → IsYear y → spec.basic y ≡ y
basic_year y is = digits_stay y is.digits

basic_month : (low high : ℕ) (y m : Text) → IsYear y → IsTwo low high m → spec.basic (y ++ hyphen ∷ m) ≡ y ++ m
basic_month low high y m is month = after_hyphen y m month.digits ∙ ap (λ t. t ++ m) (basic_year y is)

basic_day : (low high : ℕ) (y m d : Text) → IsYear y → IsTwo 1 12 m → IsTwo low high d → spec.basic (y ++ hyphen ∷ m ++ hyphen ∷ d) ≡ y ++ m ++ d
basic_day low high y m d is month day = after_hyphen (y ++ hyphen ∷ m) d day.digits ∙ ap (λ t. t ++ d) (basic_month 1 12 y m is month)

-- ---- lengths

four : (y : Text) → IsYear y → length y ≡ 4
four y is = eqb-true _ _ (and_parts _ _ is.year).0

six : (y m : Text) → IsYear y → length m ≡ 2 → length (y ++ m) ≡ 6
six y m is two = omega (arith, length-append y m, four y is, two)

eight : (y m d : Text) → IsYear y → length m ≡ 2 → length d ≡ 2 → length (y ++ m ++ d) ≡ 8
eight y m d is two of_day = omega (arith, length-append (y ++ m) d, six y m is two, of_day)

completed_is : (n k : ℕ) (part t : Text) → length t ≡ k → spec.completed n part t ≡ cond (eqb k n) (t ++ part) t
completed_is n k part t h = ap (λ k. cond (eqb k n) (t ++ part) t) h

-- ---- months and days

abbrev one : Text
one = 0x30 ∷ 0x31 ∷ []

abbrev twelve : Text
twelve = 0x31 ∷ 0x32 ∷ []

two_are : (a b : ℕ) → is_ascii_digit a ≡ true → is_ascii_digit b ≡ true → AreDigits (a ∷ b ∷ [])
two_are a b first second = All-cons PassesDigit a (b ∷ []) first (All-cons PassesDigit b [] second (All-nil PassesDigit))

between : (low high : ℕ) (a b : ℕ) → is_ascii_digit a ≡ true → is_ascii_digit b ≡ true → is_between low high (a ∷ b ∷ []) ≡ true → IsTwo low high (a ∷ b ∷ [])
between low high a b first second h = record { digits = two_are a b first second; two = refl; number = h }

january : IsTwo 1 12 one
january = between 1 12 0x30 0x31 refl refl refl

december : IsTwo 1 12 twelve
december = between 1 12 0x31 0x32 refl refl refl

some_days : (year month : ℕ) → is_between 1 (days_of year month) one ≡ true
some_days year month = grind (arith, nat_tests)

first_of_month : (year month : ℕ) → IsTwo 1 (days_of year month) one
first_of_month year month = between 1 (days_of year month) 0x30 0x31 refl refl (some_days year month)

few : (year month : ℕ) → (28 ≤ days_of year month) × (days_of year month ≤ 31)
few year month = (grind (arith), grind (arith))

digit_below : (n : ℕ) → n < 10 → is_ascii_digit (zero_digit + n) ≡ true
digit_below n h = grind (arith, nat_tests)

value_of_two : (n : ℕ) → value (spec.two_digits n) ≡ n
value_of_two n = omega (arith)

is_last : (n : ℕ) → 1 ≤ n → is_between 1 n (spec.two_digits n) ≡ true
is_last n some = let v = value_of_two n in grind (arith, nat_tests, v, some)

last_is : (year month : ℕ) → IsTwo 1 (days_of year month) (spec.two_digits (days_of year month))
last_is year month =
    let n = days_of year month in
    let most = (few year month).1 in
    between 1 n (zero_digit + n / 10) (zero_digit + n % 10) (digit_below (n / 10) (omega (arith, most))) (digit_below (n % 10) (omega (arith)))
    (is_last n (omega (arith, (few year month).0)))

last_of : (y m : Text) → IsYear y → spec.last_of_month (y ++ m) ≡ spec.two_digits (days_of (year_value y) (value m))
last_of y m is =
    let taken : take 4 (y ++ m) ≡ y = ap (λ n. take n (y ++ m)) (sym (four y is)) ∙ take-append_seam y m in
    let dropped : drop 4 (y ++ m) ≡ m = ap (λ n. drop n (y ++ m)) (sym (four y is)) ∙ drop-append_seam y m in
    ap (λ t. spec.two_digits (days_of (year_value t) (value (drop 4 (y ++ m))))) taken
    ∙ ap (λ t. spec.two_digits (days_of (year_value y) (value t))) dropped

-- ---- days

abbrev IsDayOf : Text → Text → Type 0
IsDayOf date day = IsDay day × IsOf date day

-- the digits of the date, and what is added to them
day_of_date : (date digits rest day : Text) → spec.basic date ≡ digits → day ≡ digits ++ rest → IsDay (digits ++ rest) → IsDayOf date day
day_of_date date digits rest day basic is found = (
  subst IsDay (sym is) found,
  ap (λ t. take (length (spec.basic date)) t) is ∙ ap (λ b. take (length b) (digits ++ rest)) basic ∙ take-append_seam digits rest ∙ sym basic,
)

abbrev with_first : Text → Text
with_first t = spec.completed 6 one (spec.completed 4 one t)

pub first_is : (date : Text) → IsDate date → IsDayOf date (spec.first_day date)
first_is date (year_alone y is) =
    let whole : with_first y ≡ y ++ one ++ one =
    ap (λ t. spec.completed 6 one t) (completed_is 4 4 one y (four y is)) ∙ completed_is 6 6 one (y ++ one) (six y one is refl) in
    day_of_date y y (one ++ one) (spec.first_day y) (basic_year y is)
    (ap with_first (basic_year y is) ∙ whole ∙ append_assoc y one one)
    (subst IsDay (append_assoc y one one) (day_of y one one is january (first_of_month (year_value y) 1)))
first_is date (with_month y m is month) =
    let digits = basic_month 1 12 y m is month in
    let long = six y m is month.two in
    let whole : with_first (y ++ m) ≡ y ++ m ++ one =
    ap (λ t. spec.completed 6 one t) (completed_is 4 6 one (y ++ m) long) ∙ completed_is 6 6 one (y ++ m) long in
    day_of_date (y ++ hyphen ∷ m) (y ++ m) one (spec.first_day (y ++ hyphen ∷ m)) digits (ap with_first digits ∙ whole)
    (day_of y m one is month (first_of_month (year_value y) (value m)))
first_is date (with_day y m d is month day) =
    let digits = basic_day 1 _ y m d is month day in
    let long = eight y m d is month.two day.two in
    let whole : with_first (y ++ m ++ d) ≡ y ++ m ++ d =
    ap (λ t. spec.completed 6 one t) (completed_is 4 8 one (y ++ m ++ d) long) ∙ completed_is 6 8 one (y ++ m ++ d) long in
    day_of_date (y ++ hyphen ∷ m ++ hyphen ∷ d) (y ++ m ++ d) [] (spec.first_day (y ++ hyphen ∷ m ++ hyphen ∷ d)) digits
    (ap with_first digits ∙ whole ∙ sym (append-nil (y ++ m ++ d))) (subst IsDay (sym (append-nil (y ++ m ++ d))) (day_of y m d is month day))

abbrev with_month_of : Text → Text
with_month_of t = spec.completed 4 twelve t

abbrev with_last : Text → Text
with_last t = spec.completed 6 (spec.last_of_month (with_month_of t)) (with_month_of t)

pub last_is_of : (date : Text) → IsDate date → IsDayOf date (spec.last_day date)
last_is_of date (year_alone y is) =
    let d = spec.two_digits (days_of (year_value y) 12) in
    let whole : with_last y ≡ y ++ twelve ++ d =
    ap (λ t. spec.completed 6 (spec.last_of_month t) t) (completed_is 4 4 twelve y (four y is))
    ∙ completed_is 6 6 (spec.last_of_month (y ++ twelve)) (y ++ twelve) (six y twelve is refl)
    ∙ ap (λ t. y ++ twelve ++ t) (last_of y twelve is) in
    day_of_date y y (twelve ++ d) (spec.last_day y) (basic_year y is)
    (ap with_last (basic_year y is) ∙ whole ∙ append_assoc y twelve d)
    (subst IsDay (append_assoc y twelve d) (day_of y twelve d is december (last_is (year_value y) 12)))
last_is_of date (with_month y m is month) =
    let digits = basic_month 1 12 y m is month in
    let long = six y m is month.two in
    let d = spec.two_digits (days_of (year_value y) (value m)) in
    let whole : with_last (y ++ m) ≡ y ++ m ++ d =
    ap (λ t. spec.completed 6 (spec.last_of_month t) t) (completed_is 4 6 twelve (y ++ m) long)
    ∙ completed_is 6 6 (spec.last_of_month (y ++ m)) (y ++ m) long ∙ ap (λ t. y ++ m ++ t) (last_of y m is) in
    day_of_date (y ++ hyphen ∷ m) (y ++ m) d (spec.last_day (y ++ hyphen ∷ m)) digits (ap with_last digits ∙ whole)
    (day_of y m d is month (last_is (year_value y) (value m)))
last_is_of date (with_day y m d is month day) =
    let digits = basic_day 1 _ y m d is month day in
    let long = eight y m d is month.two day.two in
    let whole : with_last (y ++ m ++ d) ≡ y ++ m ++ d =
    ap (λ t. spec.completed 6 (spec.last_of_month t) t) (completed_is 4 8 twelve (y ++ m ++ d) long)
    ∙ completed_is 6 8 (spec.last_of_month (y ++ m ++ d)) (y ++ m ++ d) long in
    day_of_date (y ++ hyphen ∷ m ++ hyphen ∷ d) (y ++ m ++ d) [] (spec.last_day (y ++ hyphen ∷ m ++ hyphen ∷ d)) digits
    (ap with_last digits ∙ whole ∙ sym (append-nil (y ++ m ++ d))) (subst IsDay (sym (append-nil (y ++ m ++ d))) (day_of y m d is month day))
