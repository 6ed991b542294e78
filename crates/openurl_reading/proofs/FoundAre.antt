-- What holds of all numbers and dates that are found in texts holds of those of a request.
use Rattle.std.proofs.Common.{◌≡◌, List, [], ◌∷◌, take, drop, get_or, Option, Some, None}
use Rattle.std.specs.Prelude.{codes}
use Rattle.std.specs.List.{All}
use Rattle.std.specs.Option.{option_or}
use Rattle.std.proofs.lemmas.List.Elements.{All-append, All-drop}
use Rattle.text_model.specs.Texts.{Text}
use Rattle.kev_read.specs.Pairs.{KeyValue, all_of}
use Rattle.standard_numbers.specs.Issn.{issns_in}
use Rattle.standard_numbers.specs.Isbn.{isbns_in}
use Rattle.publication_dates.specs.Dates.{date_in}
use Rattle.work_identifiers.specs.declared.numbers.StandardNumber.{StandardNumber}
use Rattle.work_identifiers.specs.declared.numbers.StandardNumber.TheVariants.{Issn, Isbn}
use Rattle.openurl_reading.specs.Values.{most_values, values_of, searched}
use Rattle.openurl_reading.specs.Numbers.{numbers_in, first_number, first_issn, first_eissn, first_isbn, eissn_among}
use Rattle.openurl_reading.specs.Dates.{date_keys, first_date}
use Rattle.openurl_reading.specs.IdentifiedNumbers.{find_in, identified}
use Rattle.openurl_reading.specs.Reading.{issns_of, second_issn}
use Rattle.openurl_reading.proofs.DateLed.{date_of_first}
use Rattle.openurl_reading.proofs.FoundAgain.{all_flat, first_has, other_has, further_among}
use Rattle.openurl_reading.proofs.IdentifiedNumbers.{searched_keys, identified_is}

-- of all that is found in any text
pub record AreFoundIn (P : Text → Type 0) : Type 0 where
  pub issns : (value : Text) → All P (issns_in value)
  pub isbns : (value : Text) → All P (isbns_in value)
  pub dates : (value date : Text) → date_in value ≡ Some date → P date

-- of what a step finds in pairs, or what is derived from them
pub record AreFound (P : Text → Type 0) : Type 0 where
  pub issn : (pairs : List KeyValue) (n : Text) → first_issn pairs ≡ Some n → P n
  pub eissn : (pairs : List KeyValue) (n : Text) → first_eissn pairs ≡ Some n → P n
  pub isbn : (pairs : List KeyValue) (n : Text) → first_isbn pairs ≡ Some n → P n
  pub date : (pairs : List KeyValue) (n : Text) → first_date date_keys pairs ≡ Some n → P n
  pub one : (pairs : List KeyValue) (n : Text) → first_number (issns_of pairs) ≡ Some n → P n
  pub other : (pairs : List KeyValue) (n : Text) → second_issn pairs ≡ Some n → P n
  pub identified : (number : StandardNumber) (pairs : List KeyValue) (n : Text) → identified number pairs ≡ Some n → P n

issns_are : (P : Text → Type 0) → AreFoundIn P → (values : List Text) → All P (numbers_in issns_in values)
issns_are P are values = all_flat P (λ v. issns_in (searched v)) (λ v. are.issns (searched v)) values

isbns_are : (P : Text → Type 0) → AreFoundIn P → (values : List Text) → All P (numbers_in isbns_in values)
isbns_are P are values = all_flat P (λ v. isbns_in (searched v)) (λ v. are.isbns (searched v)) values

both_are : (P : Text → Type 0) → AreFoundIn P → (pairs : List KeyValue) → All P (issns_of pairs)
both_are P are pairs =
    All-append P _ _ (issns_are P are (values_of pairs (codes "rft.issn"))) (issns_are P are (values_of pairs (codes "rft.eissn")))

eissn_is : (P : Text → Type 0) → AreFoundIn P → (issns values : List Text) (n : Text) → eissn_among values (further_among issns) ≡ Some n → P n
eissn_is P are issns [] n e =
    other_has P _ _ n
    (all_flat P (λ v. drop 1 (issns_in (searched v))) (λ v. All-drop P 1 (issns_in (searched v)) (are.issns (searched v))) (take most_values issns)) e
eissn_is P are issns (v ∷ vs) n e = first_has P _ n (issns_are P are (take most_values (v ∷ vs))) e

numbers_are : (P : Text → Type 0) → AreFoundIn P → (number : StandardNumber) (value : Text) → All P (find_in number value)
numbers_are P are Issn value = are.issns value
numbers_are P are Isbn value = are.isbns value

abbrev pub IsAll : {X : Type 0} → (X → Type 0) → Option X → Type 0
IsAll {X} P found = (d : X) → found ≡ Some d → P d

pub none_is : {X : Type 0} (P : X → Type 0) → IsAll P None
none_is P d h = cc

pub or_is : {X : Type 0} (P : X → Type 0) (a b : Option X) → IsAll P a → IsAll P b → IsAll P (option_or a b)
or_is P None b p q = q
or_is P (Some t) b p q = p

date_is : (P : Text → Type 0) → AreFoundIn P → (values : List Text) → IsAll P (date_of_first values)
date_is P are [] = none_is P
date_is P are (v ∷ vs) = are.dates (searched v)

pub found_are : (P : Text → Type 0) → AreFoundIn P → AreFound P
found_are P are = record {
  issn = λ pairs n e. first_has P _ n (issns_are P are (values_of pairs (codes "rft.issn"))) e;
  eissn = λ pairs n e. eissn_is P are (all_of pairs (codes "rft.issn")) (all_of pairs (codes "rft.eissn")) n e;
  isbn = λ pairs n e. first_has P _ n
      (All-append P _ _ (isbns_are P are (values_of pairs (codes "rft.isbn"))) (isbns_are P are (values_of pairs (codes "rft.eisbn")))) e;
  date = λ pairs.
      let is : (key : Text) → IsAll P (date_of_first (all_of pairs key)) = λ key. date_is P are (all_of pairs key) in
      or_is P _ _ (is (codes "rft.date")) (or_is P _ _ (is (codes "rft.year")) (or_is P _ _ (is (codes "date")) (or_is P _ _ (is (codes "year")) (none_is P))));
  one = λ pairs n e. first_has P _ n (both_are P are pairs) e;
  other = λ pairs n e. other_has P _ _ n (both_are P are pairs) e;
  identified = λ number pairs. identified_is P number pairs
      (λ k d h j e g. numbers_are P are number (searched (get_or (all_of pairs (get_or searched_keys k d)) j e)));
}
