-- What is found is a date.
use Rattle.std.proofs.Common.{◌≡◌, ℕ, zero, suc, ◌+◌, ◌/◌, ◌%◌, ◌<◌, ◌≤◌, List, [], ◌∷◌, length, take, drop, Bool, true, false, cond, not, ◌&&◌, Option}
use Rattle.std.proofs.Common.{Some, None, option_map, refl, subst, arith, eqb}
use Rattle.std.specs.Prelude.{nat_le}
use Rattle.std.specs.Char.{is_ascii_digit}
use Rattle.std.specs.List.{All, onto_first}
use Rattle.std.specs.Option.{option_map_or}
use Rattle.std.proofs.lemmas.Bool.{and_parts, cond_both, not-false, false≢true, leb-true}
use Rattle.std.proofs.lemmas.Bool.Decides.{nat_tests}
use Rattle.std.proofs.lemmas.List.Elements.{All-nil, All-cons, All-head, All-tail, All-take, All-drop}
use Rattle.text_model.specs.Texts.{Text}
use Rattle.publication_dates.specs.Calendar as calendar
use Rattle.publication_dates.specs.Months.{first_month, words, digits_of}
use Rattle.publication_dates.specs.Dates as spec
use Rattle.publication_dates.specs.Forms.{AreDigits, IsYear, IsTwo, IsDate, year_alone, with_month, with_day}
use Rattle.publication_dates.proofs.MonthNames.{first_below}

-- ---- the parts are digits

abbrev AreParts : List Text → Type 0
AreParts parts = All AreDigits parts

no_digits : AreDigits []
no_digits = All-nil (λ b. is_ascii_digit b ≡ true)

digits-cons : (b : ℕ) (t : Text) → is_ascii_digit b ≡ true → AreDigits t → AreDigits (b ∷ t)
digits-cons b t h ts = All-cons (λ b. is_ascii_digit b ≡ true) b t h ts

onto : (b : ℕ) (parts : List Text) → is_ascii_digit b ≡ true → AreParts parts → AreParts (onto_first b parts)
onto b [] h all = All-cons AreDigits (b ∷ []) [] (digits-cons b [] h no_digits) (All-nil AreDigits)
onto b (part ∷ parts) h all =
    All-cons AreDigits (b ∷ part) parts (digits-cons b part h (All-head AreDigits part parts all)) (All-tail AreDigits part parts all)

parts_more : (b : ℕ) (parts : List Text) (cut : Bool) → not (is_ascii_digit b) ≡ cut → AreParts parts → AreParts (cond cut ([] ∷ parts) (onto_first b parts))
parts_more b parts true h all = All-cons AreDigits [] parts no_digits all
parts_more b parts false h all = onto b parts (not-false (is_ascii_digit b) h) all

are_parts : (t : Text) → AreParts (spec.parts t)
are_parts [] = All-cons AreDigits [] [] no_digits (All-nil AreDigits)
are_parts (b ∷ t) = parts_more b (spec.parts t) (not (is_ascii_digit b)) refl (are_parts t)

nth_digits : (parts : List Text) (i : ℕ) → AreParts parts → AreDigits (spec.nth parts i)
nth_digits [] i all = no_digits
nth_digits (part ∷ parts) zero all = All-head AreDigits part parts all
nth_digits (part ∷ parts) (suc i) all = nth_digits parts i (All-tail AreDigits part parts all)

-- ---- a date of its parts

between_short : (low high : ℕ) (m : Text) → calendar.is_between low high m ≡ true → length m ≤ 2
between_short low high m h =
    let a : (calendar.is_part m && nat_le low (calendar.value m)) ≡ true = (and_parts _ _ h).0 in
    let b : calendar.is_part m ≡ true = (and_parts _ _ a).0 in
    leb-true _ _ (and_parts _ _ b).0

-- a part of a date, with two digits
two_digits : (low high : ℕ) (m : Text) → AreDigits m → calendar.is_between low high m ≡ true → IsTwo low high (calendar.two m)
two_digits low high [] digits h = absurd (false≢true h)
two_digits low high (b ∷ []) digits h = record { digits = digits-cons calendar.zero_digit (b ∷ []) refl digits; two = refl; number = h }
two_digits low high (b ∷ c ∷ []) digits h = record { digits = digits; two = refl; number = h }
two_digits low high (b ∷ c ∷ e ∷ m) digits h =
    let short : 3 + length m ≤ 2 = omega (arith, between_short low high (b ∷ c ∷ e ∷ m) h) in
    absurd (omega arith)

-- which has the same value
same_value : (low high : ℕ) (m : Text) → calendar.is_between low high m ≡ true → calendar.value m ≡ calendar.value (calendar.two m)
same_value low high [] h = absurd (false≢true h)
same_value low high (b ∷ []) h = refl
same_value low high (b ∷ c ∷ []) h = refl
same_value low high (b ∷ c ∷ e ∷ m) h =
    let short : 3 + length m ≤ 2 = omega (arith, between_short low high (b ∷ c ∷ e ∷ m) h) in
    absurd (omega arith)

dated_is : (y m d : Text) → IsYear y → AreDigits m → AreDigits d → IsDate (calendar.dated y m d)
dated_is y m d is months days =
    cond_both (calendar.is_month m) _ _ IsDate
    (λ month.
    let last : ℕ → ℕ = λ v. calendar.days_of (calendar.year_value y) v in
    cond_both (calendar.is_day y m d) _ _ IsDate
    (λ day. with_day y (calendar.two m) (calendar.two d) is (two_digits 1 12 m months month)
    (subst (λ v. IsTwo 1 (last v) (calendar.two d)) (same_value 1 12 m month) (two_digits 1 (last (calendar.value m)) d days day)))
    (λ _. with_month y (calendar.two m) is (two_digits 1 12 m months month)))
    (λ _. year_alone y is)

abbrev IsDateIfSome : Option Text → Type 0
IsDateIfSome None = Unit {0}
IsDateIfSome (Some date) = IsDate date

-- ---- each form

day_digits : (t m d : Text) → AreDigits d → AreDigits (spec.day_after t m d)
day_digits t m d days = cond_both _ d [] AreDigits (λ _. days) (λ _. no_digits)

compact_is : (first : Text) → AreDigits first → calendar.is_year (take 4 first) ≡ true → IsDate (spec.compact_date first)
compact_is first digits year =
    let P : ℕ → Type 0 = λ b. is_ascii_digit b ≡ true in
    dated_is (take 4 first) (take 2 (drop 4 first)) (take 2 (drop 6 first)) (record { digits = All-take P 4 first digits; year = year })
    (All-take P 2 (drop 4 first) (All-drop P 4 first digits)) (All-take P 2 (drop 6 first) (All-drop P 6 first digits))

year_last_is : (a b y : Text) → AreDigits a → AreDigits b → IsYear y → IsDate (spec.year_last_date a b y)
year_last_is a b y firsts seconds is =
    cond_both (calendar.is_month a) _ _ IsDate
    (λ _. cond_both (calendar.is_month b && not (eqb (calendar.value a) (calendar.value b))) _ _ IsDate
    (λ _. year_alone y is) (λ _. dated_is y a b is firsts seconds))
    (λ _. dated_is y b a is seconds firsts)

digit_from : (k : ℕ) → k < 10 → is_ascii_digit (calendar.zero_digit + k) ≡ true
digit_from k h = grind (arith, nat_tests)

month_digits : (o : Option ℕ) → ((n : ℕ) → o ≡ Some n → n ≤ 12) → AreDigits (option_map_or digits_of o [])
month_digits None h = no_digits
month_digits (Some n) h =
    let small : n ≤ 12 = h n refl in
    digits-cons (calendar.zero_digit + n / 10) ((calendar.zero_digit + n % 10) ∷ []) (digit_from (n / 10) (omega arith))
    (digits-cons (calendar.zero_digit + n % 10) [] (digit_from (n % 10) (omega arith)) no_digits)

named_at : (month : Text) (year : Option Text) → AreDigits month → ((y : Text) → year ≡ Some y → IsYear y)
    → IsDateIfSome (option_map (λ y. calendar.dated y month []) year)
named_at month None digits is = tt
named_at month (Some y) digits is = dated_is y month [] (is y refl) digits no_digits

year_at : (part y : Text) (b : Bool) (rest : Option Text) → calendar.is_year part ≡ b → AreDigits part → (rest ≡ Some y → IsYear y)
    → cond b (Some part) rest ≡ Some y → IsYear y
year_at part y true rest e digits more h = let same : part ≡ y = cc in subst IsYear same (record { digits = digits; year = e })
year_at part y false rest e digits more h = more h

some_year_is : (parts : List Text) (y : Text) → AreParts parts → spec.some_year parts ≡ Some y → IsYear y
some_year_is [] y all h = cc
some_year_is (part ∷ parts) y all h =
    year_at part y _ (spec.some_year parts) refl (All-head AreDigits part parts all)
    (λ more. some_year_is parts y (All-tail AreDigits part parts all) more) h

-- ---- the date

date_of_is : (t : Text) (ps : List Text) → AreParts ps → IsDateIfSome (spec.date_of t ps)
date_of_is t ps all =
    let first = nth_digits ps 0 all in
    let second = nth_digits ps 1 all in
    let third = nth_digits ps 2 all in
    cond_both (spec.is_year_first t (spec.nth ps 0) (spec.nth ps 1)) _ _ IsDateIfSome
    (λ h. dated_is (spec.nth ps 0) (spec.nth ps 1) (spec.day_after t (spec.nth ps 1) (spec.nth ps 2))
    (record { digits = first; year = (and_parts _ _ (and_parts _ _ h).0).0 }) second (day_digits t (spec.nth ps 1) (spec.nth ps 2) third))
    (λ _. cond_both (spec.is_compact t (spec.nth ps 0)) _ _ IsDateIfSome
    (λ h. compact_is (spec.nth ps 0) first (and_parts _ _ h).0)
    (λ _. cond_both (spec.is_year_last t (spec.nth ps 0) (spec.nth ps 1) (spec.nth ps 2)) _ _ IsDateIfSome
    (λ h. year_last_is (spec.nth ps 0) (spec.nth ps 1) (spec.nth ps 2) first second (record { digits = third; year = (and_parts _ _ h).1 }))
    (λ _. cond_both (spec.is_month_and_year t (spec.nth ps 0) (spec.nth ps 1)) _ _ IsDateIfSome
    (λ h. dated_is (spec.nth ps 1) (spec.nth ps 0) [] (record { digits = second; year = (and_parts _ _ (and_parts _ _ h).0).1 }) first no_digits)
    (λ _. named_at (option_map_or digits_of (first_month (words t)) []) (spec.some_year ps)
    (month_digits (first_month (words t)) (first_below (words t))) (λ y e. some_year_is ps y all e)))))

pub read_is_date : (text date : Text) → spec.date_in text ≡ Some date → IsDate date
read_is_date text date h = subst IsDateIfSome h (date_of_is (spec.trimmed text) (spec.parts (spec.trimmed text)) (are_parts (spec.trimmed text)))
