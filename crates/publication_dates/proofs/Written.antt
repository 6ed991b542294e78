-- A date as the standard writes it is found as it is.
use Rattle.std.proofs.Common.{◌≡◌, ℕ, ◌+◌, ◌<◌, [], ◌∷◌, ◌++◌, Bool, true, false, not, cond, eqb, length, get_or, take, refl, ap, ◌∙◌, sym}
use Rattle.std.proofs.Common.{arith, Some, append_assoc}
use Rattle.std.specs.Char.{is_ascii_digit}
use Rattle.std.specs.List.{All}
use Rattle.std.proofs.lemmas.Bool.{not_from_true, and_parts, and_from, and_left, and_right, eqb-true, eq-eqb, cond-false}
use Rattle.std.proofs.lemmas.List.{get_or_at, length-append}
use Rattle.std.proofs.lemmas.List.Splits.{slice_split_none, slice_split_at}
use Rattle.text_model.specs.Texts.{Text}
use Rattle.publication_dates.specs.Calendar.{hyphen, is_year, is_part, two, dated}
use Rattle.publication_dates.specs.Dates as spec
use Rattle.publication_dates.specs.Forms.{AreDigits, IsYear, IsTwo, IsDate, year_alone, with_month, with_day}
use Rattle.publication_dates.proofs.Trimmed.{trimmed_whole}
use Rattle.publication_dates.proofs.MonthNames.{no_month}
use Rattle.publication_dates.proofs.AsciiDates.{no_spaces}

inside : (t : Text) → AreDigits t → All (λ b. not (is_ascii_digit b) ≡ false) t
inside t digits k d h = not_from_true _ (digits k d h)

one_part : (t : Text) → AreDigits t → spec.parts t ≡ t ∷ []
one_part t digits = slice_split_none (λ b. not (is_ascii_digit b)) t (inside t digits)

first_part : (t rest : Text) → AreDigits t → spec.parts (t ++ hyphen ∷ rest) ≡ t ∷ spec.parts rest
first_part t rest digits = slice_split_at (λ b. not (is_ascii_digit b)) t hyphen rest (inside t digits) refl

year_long : (y : Text) → IsYear y → length y ≡ 4
year_long y is = eqb-true _ _ (and_parts _ _ is.year).0

part_from : (low high : ℕ) (m : Text) → IsTwo low high m → is_part m ≡ true
part_from low high m is = (and_parts _ _ (and_parts _ _ is.number).0).0

two_is : (low high : ℕ) (m : Text) → IsTwo low high m → two m ≡ m
two_is low high m is = rw is.two refl

-- a year, a hyphen and a month, and what follows
year_first : (t y m : Text) → IsYear y → IsTwo 1 12 m → get_or t 4 0 ≡ hyphen → spec.is_year_first t y m ≡ true
year_first t y m is month at_4 = and_from _ _ (and_from _ _ is.year (ap spec.is_separator at_4)) (part_from 1 12 m month)

same_cond : (b : Bool) (t : Text) → cond b t t ≡ t
same_cond true t = refl
same_cond false t = refl

whole_year : (y : Text) → IsYear y → spec.date_of y (y ∷ []) ≡ Some y
whole_year y is =
    let not_first : spec.is_year_first y y [] ≡ false = and_right _ _ refl in
    let not_compact : spec.is_compact y y ≡ false = and_right (is_year (take 4 y)) _ (rw (year_long y is) refl) in
    let not_last : spec.is_year_last y y [] [] ≡ false = and_right _ _ refl in
    let not_month : spec.is_month_and_year y y [] ≡ false = and_left _ _ (and_right _ _ refl) in
    let alone : spec.named_date y (y ∷ []) ≡ Some y = rw is.year (rw (no_month y is.digits) refl) in
    cond-false _ _ _ not_first ∙ cond-false _ _ _ not_compact ∙ cond-false _ _ _ not_last ∙ cond-false _ _ _ not_month ∙ alone

in_text : (date : Text) → IsDate date → 0 < length date → spec.date_of date (spec.parts date) ≡ Some date → spec.date_in date ≡ Some date
in_text date is some e = ap (λ t. spec.date_of t (spec.parts t)) (trimmed_whole date some (no_spaces date is)) ∙ e

pub read_as_it_is : (date : Text) → IsDate date → spec.date_in date ≡ Some date
read_as_it_is date (year_alone y is) =
    in_text y (year_alone y is) (omega (arith, year_long y is)) (ap (spec.date_of y) (one_part y is.digits) ∙ whole_year y is)
read_as_it_is date (with_month y m is month) =
    let t : Text = y ++ hyphen ∷ m in
    let long = year_long y is in
    let ps : spec.parts t ≡ y ∷ m ∷ [] = first_part y m is.digits ∙ ap (λ rest. y ∷ rest) (one_part m month.digits) in
    let at_4 : get_or t 4 0 ≡ hyphen = get_or_at y hyphen m 0 4 long in
    in_text t (with_month y m is month) (omega (arith, length-append y (hyphen ∷ m)))
    (ap (spec.date_of t) ps ∙ rw (year_first t y m is month at_4)
    (ap (λ day. Some (dated y m day)) (same_cond (eqb (get_or t (5 + length m) 0) (get_or t 4 0)) [])
    ∙ ap Some (rw month.number (ap (λ t. y ++ hyphen ∷ t) (two_is 1 12 m month)))))
read_as_it_is date (with_day y m d is month day) =
    let t : Text = y ++ hyphen ∷ m ++ hyphen ∷ d in
    let long = year_long y is in
    let grouped : t ≡ y ++ (hyphen ∷ (m ++ hyphen ∷ d)) = append_assoc y (hyphen ∷ m) (hyphen ∷ d) in
    let ps : spec.parts t ≡ y ∷ m ∷ d ∷ [] =
    ap spec.parts grouped ∙ first_part y (m ++ hyphen ∷ d) is.digits
    ∙ ap (λ rest. y ∷ rest) (first_part m d month.digits ∙ ap (λ rest. m ∷ rest) (one_part d day.digits)) in
    let at_4 : get_or t 4 0 ≡ hyphen = ap (λ s. get_or s 4 0) grouped ∙ get_or_at y hyphen (m ++ hyphen ∷ d) 0 4 long in
    let seven : length (y ++ hyphen ∷ m) ≡ 5 + length m = omega (arith, length-append y (hyphen ∷ m)) in
    let at_7 : get_or t (5 + length m) 0 ≡ hyphen = get_or_at (y ++ hyphen ∷ m) hyphen d 0 (5 + length m) seven in
    let third : spec.day_after t m d ≡ d = rw (eq-eqb _ _ (at_7 ∙ sym at_4)) refl in
    in_text t (with_day y m d is month day) (omega (arith, length-append (y ++ hyphen ∷ m) (hyphen ∷ d)))
    (ap (spec.date_of t) ps ∙ rw (year_first t y m is month at_4)
    (ap (λ day. Some (dated y m day)) third ∙ ap Some (rw month.number (rw day.number
    (ap (λ t. y ++ hyphen ∷ t ++ hyphen ∷ two d) (two_is 1 12 m month) ∙ ap (λ t. y ++ hyphen ∷ m ++ hyphen ∷ t) (two_is 1 _ d day))))))
