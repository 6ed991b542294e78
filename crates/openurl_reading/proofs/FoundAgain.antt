-- Numbers and dates that were found are found again.
use Rattle.std.proofs.Common.{◌≡◌, List, [], ◌∷◌, ◌++◌, take, drop, Bool, true, false, cond, not, Option, Some, None, ap, subst, inl, inr, ◌⊎◌, arith}
use Rattle.std.specs.Prelude.{slice_get}
use Rattle.std.specs.List.{All, find, flat_map}
use Rattle.std.specs.Str.{bytes_eq}
use Rattle.std.proofs.lemmas.List.Elements.{All-head, All-tail, All-append, All-drop}
use Rattle.text_model.specs.Texts.{Text}
use Rattle.standard_numbers.specs.Issn.{issns_in}
use Rattle.standard_numbers.specs.Isbn.{isbns_in}
use Rattle.publication_dates.specs.Dates.{date_in}
use Rattle.openurl_reading.specs.Values.{most_values, searched}
use Rattle.openurl_reading.specs.Numbers.{numbers_in, first_number, other_than, eissn_among}
use Rattle.openurl_reading.proofs.DateLed.{IsReadAgain}
use Rattle.openurl_reading.proofs.Led.{IsFoundAgain, first_again}

-- an ISSN that looks like years is only found beside a word
abbrev pub IsIssnAgain : Text → Type 0
IsIssnAgain issn = (issns_in (searched issn) ≡ issn ∷ []) ⊎ (issns_in (searched issn) ≡ [])

abbrev pub IsIsbnAgain : Text → Type 0
IsIsbnAgain isbn = isbns_in (searched isbn) ≡ isbn ∷ []

-- what the crates of numbers and dates promise
pub record AreFoundAgain : Type 0 where
  pub issns : (value : Text) → All IsIssnAgain (issns_in value)
  pub isbns : (value : Text) → All IsIsbnAgain (isbns_in value)
  pub dates : (value date : Text) → date_in value ≡ Some date → IsReadAgain date

pub all_flat : (P : Text → Type 0) (f : Text → List Text) → ((v : Text) → All P (f v)) → (values : List Text) → All P (flat_map f values)
all_flat P f each [] = λ k d h. absurd (omega arith)
all_flat P f each (v ∷ vs) = All-append P (f v) (flat_map f vs) (each v) (all_flat P f each vs)

pub first_has : (P : Text → Type 0) (xs : List Text) (n : Text) → All P xs → slice_get xs 0 ≡ Some n → P n
first_has P [] n all h = cc
first_has P (x ∷ xs) n all h = let e : x ≡ n = cc in subst P e (All-head P x xs all)

find_has : (P : Text → Type 0) (test : Text → Bool) (xs : List Text) (n : Text) → All P xs → find test xs ≡ Some n → P n
find_has P test [] n all h = cc
find_has P test (x ∷ xs) n all h = by_test (test x) (find_has P test xs n (All-tail P x xs all)) h
  where
    by_test : (b : Bool) → (find test xs ≡ Some n → P n) → cond b (Some x) (find test xs) ≡ Some n → P n
    by_test true rest e = let same : x ≡ n = cc in subst P same (All-head P x xs all)
    by_test false rest e = rest e

pub other_has : (P : Text → Type 0) (number : Option Text) (xs : List Text) (n : Text) → All P xs → other_than number xs ≡ Some n → P n
other_has P None xs n all h = cc
other_has P (Some number) xs n all h = find_has P (λ other. not (bytes_eq other number)) xs n all h

-- ---- numbers of a key

issns_of_values : AreFoundAgain → (values : List Text) → All IsIssnAgain (numbers_in issns_in values)
issns_of_values laws values = all_flat IsIssnAgain (λ v. issns_in (searched v)) (λ v. laws.issns (searched v)) values

isbns_of_values : AreFoundAgain → (values : List Text) → All IsIsbnAgain (numbers_in isbns_in values)
isbns_of_values laws values = all_flat IsIsbnAgain (λ v. isbns_in (searched v)) (λ v. laws.isbns (searched v)) values

further_of_values : AreFoundAgain → (values : List Text) → All IsIssnAgain (flat_map (λ v. drop 1 (issns_in (searched v))) values)
further_of_values laws values =
    all_flat IsIssnAgain (λ v. drop 1 (issns_in (searched v))) (λ v. All-drop IsIssnAgain 1 (issns_in (searched v)) (laws.issns (searched v))) values

abbrev pub issn_among : List Text → Option Text
issn_among values = first_number (numbers_in issns_in (take most_values values))

pub issn_among_again : AreFoundAgain → (values : List Text) (n : Text) → issn_among values ≡ Some n → IsIssnAgain n
issn_among_again laws values n e =
    first_has IsIssnAgain (numbers_in issns_in (take most_values values)) n (issns_of_values laws (take most_values values)) e

pub issn_again : AreFoundAgain → (values : List Text) → IsFoundAgain issn_among values
issn_again laws values n e = first_again (λ v. issns_in (searched v)) values 19 n e (issn_among_again laws values n e)

-- the second ISSN of a value of the other key
abbrev pub further_among : List Text → Option Text
further_among values = other_than (issn_among values) (flat_map (λ v. drop 1 (issns_in (searched v))) (take most_values values))

one_again : (n : Text) → IsIssnAgain n → (issn_among (n ∷ []) ≡ Some n) ⊎ (issn_among (n ∷ []) ≡ None)
one_again n (inl one) = inl (ap (λ found. slice_get (found ++ []) 0) one)
one_again n (inr none) = inr (ap (λ found. slice_get (found ++ []) 0) none)

pub eissn_among_again : AreFoundAgain → (issns values : List Text) (n : Text) → eissn_among values (further_among issns) ≡ Some n → IsIssnAgain n
eissn_among_again laws issns [] n e =
    other_has IsIssnAgain (issn_among issns) (flat_map (λ v. drop 1 (issns_in (searched v))) (take most_values issns)) n
    (further_of_values laws (take most_values issns)) e
eissn_among_again laws issns (v ∷ vs) n e = issn_among_again laws (v ∷ vs) n e

pub eissn_again : AreFoundAgain → (issns values : List Text) → IsFoundAgain (λ vs. eissn_among vs (further_among issns)) values
eissn_again laws issns [] n e = one_again n (eissn_among_again laws issns [] n e)
eissn_again laws issns (v ∷ vs) n e = issn_again laws (v ∷ vs) n e

abbrev pub isbn_among : List Text → List Text → Option Text
isbn_among others values = first_number (numbers_in isbns_in (take most_values values) ++ numbers_in isbns_in (take most_values others))

pub isbn_among_again : AreFoundAgain → (others values : List Text) (n : Text) → isbn_among others values ≡ Some n → IsIsbnAgain n
isbn_among_again laws others values n e =
    let own = numbers_in isbns_in (take most_values values) in
    let more = numbers_in isbns_in (take most_values others) in
    first_has IsIsbnAgain (own ++ more) n
    (All-append IsIsbnAgain own more (isbns_of_values laws (take most_values values)) (isbns_of_values laws (take most_values others))) e

pub isbn_again : AreFoundAgain → (others values : List Text) → IsFoundAgain (isbn_among others) values
isbn_again laws others values n e =
    let more = numbers_in isbns_in (take most_values others) in
    inl (ap (λ found. slice_get (found ++ numbers_in isbns_in (take 19 values) ++ more) 0) (isbn_among_again laws others values n e))
