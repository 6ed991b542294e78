-- What follows for the steps from the laws of numbers and dates.
use Rattle.std.proofs.Common.{◌≡◌, ℕ, ◌-◌, ◌<◌, ◌≤◌, [], ◌∷◌, ◌++◌, take, drop, length, get_or, true, false, ◌⊎◌, List, Option, Some, None}
use Rattle.std.proofs.Common.{refl, sym, ap, ◌∙◌, subst, arith, zero, suc, append-nil, append_assoc}
use Rattle.std.specs.Char.{is_ascii_digit}
use Rattle.std.specs.List.{All, list_all}
use Rattle.std.specs.Option.{option_and_then}
use Rattle.std.specs.Prelude.{codes}
use Rattle.std.proofs.lemmas.Bool.{and_parts, eqb-true, leb-true}
use Rattle.std.proofs.lemmas.List.{take_all, length-drop, length-append}
use Rattle.std.proofs.lemmas.List.Elements.{All-head}
use Rattle.text_model.specs.Texts.{Text}
use Rattle.kev_read.specs.Pairs.{KeyValue, first_of}
use Rattle.standard_numbers.specs.Spellings.{are_digits}
use Rattle.standard_numbers.specs.Issn.{issns_in, IsIssn, is_doubtful}
use Rattle.standard_numbers.specs.Isbn.{isbns_in, IsIsbn}
use Rattle.publication_dates.specs.Calendar.{hyphen}
use Rattle.publication_dates.specs.Dates.{date_in}
use Rattle.publication_dates.specs.Days.{IsDay, day_of, IsOf, first_day, last_day}
use Rattle.publication_dates.specs.Forms.{IsYear, IsDate, year_alone, with_month, with_day}
use Rattle.openurl_reading.specs.Values.{most_bytes, searched}
use Rattle.openurl_reading.proofs.Additions.{AreDaysAll}
use Rattle.openurl_reading.proofs.CanonicalStays.{IsKept, IsDateKept}
use Rattle.openurl_reading.proofs.FoundAgain.{AreFoundAgain}
use Rattle.openurl_reading.proofs.FoundAre.{AreFoundIn}
use Rattle.openurl_reading.proofs.IdentifierForms.{BeginsWithDigit}
use Rattle.openurl_reading.proofs.PlainNumbers.{AreWritten, IsWord, word_stays, issn_word, isbn_word, date_word}

-- what the laws say
abbrev pub IssnsAre : Type 0
IssnsAre = (text : Text) → All IsIssn (issns_in text)

abbrev pub IssnsStay : Type 0
IssnsStay = (issn : Text) → IsIssn issn → is_doubtful issn ≡ false → issns_in issn ≡ issn ∷ []

abbrev pub IssnsAlone : Type 0
IssnsAlone = (issn : Text) → IsIssn issn → (issns_in issn ≡ issn ∷ []) ⊎ (issns_in issn ≡ [])

abbrev pub IsbnsAre : Type 0
IsbnsAre = (text : Text) → All IsIsbn (isbns_in text)

abbrev pub IsbnsStay : Type 0
IsbnsStay = (isbn : Text) → IsIsbn isbn → isbns_in isbn ≡ isbn ∷ []

abbrev pub DatesAre : Type 0
DatesAre = (text date : Text) → date_in text ≡ Some date → IsDate date

abbrev pub DatesStay : Type 0
DatesStay = (date : Text) → IsDate date → date_in date ≡ Some date

-- ---- how long numbers and dates are

digits_long : (count : ℕ) (t : Text) → are_digits count t ≡ true → length t ≡ count
digits_long count [] h = sym (eqb-true count 0 h)
digits_long count (b ∷ t) h =
    let parts = and_parts _ _ h in
    let some : 1 ≤ count = leb-true _ _ (and_parts _ _ parts.0).0 in
    omega (arith, some, digits_long (count - 1) t parts.1)

issn_long : (issn : Text) → IsIssn issn → length issn ≡ 9
issn_long issn is = omega (arith, length-drop 5 issn, digits_long 4 (drop 5 issn) (and_parts _ _ is).1)

isbn_long : (isbn : Text) → IsIsbn isbn → length isbn ≡ 13
isbn_long isbn is = eqb-true _ _ (and_parts _ _ (and_parts _ _ is).0).0

year_long : (y : Text) → IsYear y → length y ≡ 4
year_long y is = eqb-true _ _ (and_parts _ _ is.year).0

date_short : (date : Text) → IsDate date → length date ≤ 10
date_short _ (year_alone y year) = omega (arith, year_long y year)
date_short _ (with_month y m year month) = omega (arith, length-append y (hyphen ∷ m), year_long y year, month.two)
date_short _ (with_day y m d year month day) =
    omega (arith, length-append (y ++ hyphen ∷ m) (hyphen ∷ d), length-append y (hyphen ∷ m), year_long y year, month.two, day.two)

whole : AreWritten → (t : Text) → IsWord t → length t ≤ most_bytes → searched t ≡ t
whole laws t word h = ap (take most_bytes) (word_stays laws t word) ∙ take_all most_bytes t h

issn_whole : AreWritten → (issn : Text) → IsIssn issn → searched issn ≡ issn
issn_whole laws issn is = whole laws issn (issn_word issn is) (omega (arith, issn_long issn is))

isbn_whole : AreWritten → (isbn : Text) → IsIsbn isbn → searched isbn ≡ isbn
isbn_whole laws isbn is = whole laws isbn (isbn_word isbn is) (omega (arith, isbn_long isbn is))

date_whole : AreWritten → (date : Text) → IsDate date → searched date ≡ date
date_whole laws date is = whole laws date (date_word date is) (omega (arith, date_short date is))

-- the days of a date have eight digits
day_long : (day : Text) → IsDay day → length day ≡ 8
day_long _ (day_of y m d year month day) = omega (arith, length-append (y ++ m) d, length-append y m, year_long y year, month.two, day.two)

-- what the law of days says
abbrev pub AreDays : (Text → Text) → Type 0
AreDays day = (date : Text) → IsDate date → IsDay (day date) × IsOf date (day date)

pub days_short : DatesAre → AreDays first_day → AreDays last_day → (pairs : List KeyValue) → AreDaysAll (λ n. length n ≤ 13) pairs
days_short dates first last pairs date e = by_first (first_of pairs (codes "rft.date")) e
  where
    by_first : (value : Option Text) → option_and_then (λ v. date_in (searched v)) value ≡ Some date
        → (length (first_day date) ≤ 13) × (length (last_day date) ≤ 13)
    by_first None e = cc
    by_first (Some v) e =
        let is = dates (searched v) date e in
        (omega (arith, day_long (first_day date) (first date is).0), omega (arith, day_long (last_day date) (last date is).0))

pub found_short : IssnsAre → IsbnsAre → DatesAre → AreFoundIn (λ n. length n ≤ 13)
found_short issns isbns dates = record {
  issns = λ value k d h. omega (arith, issn_long (get_or (issns_in value) k d) (issns value k d h));
  isbns = λ value k d h. omega (arith, isbn_long (get_or (isbns_in value) k d) (isbns value k d h));
  dates = λ value date e. omega (arith, date_short date (dates value date e));
}

-- ---- they are found again

pub found_again : AreWritten → IssnsAre → IssnsAlone → IsbnsAre → IsbnsStay → DatesAre → DatesStay → AreFoundAgain
found_again laws issns alone isbns isbns_stay dates dates_stay = record {
  issns = λ value k d h.
      let issn = get_or (issns_in value) k d in
      let is = issns value k d h in
      subst (λ t. (issns_in t ≡ issn ∷ []) ⊎ (issns_in t ≡ [])) (sym (issn_whole laws issn is)) (alone issn is);
  isbns = λ value k d h.
      let isbn = get_or (isbns_in value) k d in
      let is = isbns value k d h in
      ap isbns_in (isbn_whole laws isbn is) ∙ isbns_stay isbn is;
  dates = λ value date e. let is = dates value date e in ap date_in (date_whole laws date is) ∙ dates_stay date is;
}

pub issn_kept : AreWritten → IssnsStay → (issn : Text) → IsIssn issn → is_doubtful issn ≡ false → IsKept issns_in issn
issn_kept laws stay issn is sure = ap issns_in (issn_whole laws issn is) ∙ stay issn is sure

pub isbn_kept : AreWritten → IsbnsStay → (isbn : Text) → IsIsbn isbn → IsKept isbns_in isbn
isbn_kept laws stay isbn is = ap isbns_in (isbn_whole laws isbn is) ∙ stay isbn is

pub date_kept : AreWritten → DatesStay → (date : Text) → IsDate date → IsDateKept date
date_kept laws stay date is = ap date_in (date_whole laws date is) ∙ stay date is

-- ---- they begin with a digit

first_digit : (n : Text) (count : ℕ) → 0 < count → 0 < length n → list_all is_ascii_digit (take count n) ≡ true → BeginsWithDigit n
first_digit [] count some long h = absurd (omega arith)
first_digit (b ∷ t) zero some long h = absurd (omega arith)
first_digit (b ∷ t) (suc count) some long h = (b, t, refl, (and_parts _ _ h).0)

year_digit : (y rest : Text) → IsYear y → BeginsWithDigit (y ++ rest)
year_digit [] rest is = absurd (let e = year_long [] is in omega (arith, e))
year_digit (b ∷ t) rest is = (b, t ++ rest, refl, All-head (λ b. is_ascii_digit b ≡ true) b t is.digits)

date_digit : (date : Text) → IsDate date → BeginsWithDigit date
date_digit _ (year_alone y year) = subst BeginsWithDigit (append-nil y) (year_digit y [] year)
date_digit _ (with_month y m year month) = year_digit y (hyphen ∷ m) year
date_digit _ (with_day y m d year month day) =
    subst BeginsWithDigit (sym (append_assoc y (hyphen ∷ m) (hyphen ∷ d))) (year_digit y (hyphen ∷ m ++ hyphen ∷ d) year)

isbn_digit : (isbn : Text) → IsIsbn isbn → BeginsWithDigit isbn
isbn_digit isbn is =
    let long = isbn_long isbn is in
    let digits : list_all is_ascii_digit (take 13 isbn) ≡ true =
    ap (list_all is_ascii_digit) (take_all 13 isbn (omega (arith, long))) ∙ (and_parts _ _ (and_parts _ _ is).0).1 in
    first_digit isbn 13 (omega arith) (omega (arith, long)) digits

pub found_digits : IssnsAre → IsbnsAre → DatesAre → AreFoundIn BeginsWithDigit
found_digits issns isbns dates = record {
  issns = λ value k d h.
      let issn = get_or (issns_in value) k d in
      let is = issns value k d h in
      first_digit issn 4 (omega arith) (omega (arith, issn_long issn is)) (and_parts _ _ (and_parts _ _ is).0).0;
  isbns = λ value k d h. isbn_digit (get_or (isbns_in value) k d) (isbns value k d h);
  dates = λ value date e. date_digit date (dates value date e);
}
