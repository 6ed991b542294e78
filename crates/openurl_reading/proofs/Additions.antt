-- The pairs that the resolver adds, as a list of keys and values.
use Rattle.std.proofs.Common.{◌≡◌, List, [], ◌∷◌, ◌++◌, Option, Some, None, refl, subst, append_assoc, append-nil}
use Rattle.std.specs.Option.{option_map}
use Rattle.std.specs.Prelude.{codes}
use Rattle.std.specs.List.{All, flat_map}
use Rattle.std.proofs.lemmas.List.Elements.{All-append, All-head, All-tail, All-same}
use Rattle.text_model.specs.Texts.{Text}
use Rattle.kev_read.specs.Pairs.{KeyValue}
use Rattle.publication_dates.specs.Days.{Days, first_day, last_day, first_and_last}
use Rattle.work_identifiers.specs.declared.namespace.Namespace.{Namespace}
use Rattle.work_identifiers.specs.declared.namespace.Namespace.TheVariants.{Doi, Pmid, Oclc}
use Rattle.openurl_reading.specs.Identifiers.{first_under}
use Rattle.openurl_reading.specs.Numbers.{first_number, first_isbn}
use Rattle.openurl_reading.specs.Dates.{date_under}
use Rattle.openurl_reading.specs.Reading.{added, issns_of, second_issn, days_of, doi_encoded, derived}
use Rattle.openurl_reading.proofs.Each.{none_has, one_has}
use Rattle.openurl_reading.proofs.FoundAre.{IsAll}
use Rattle.openurl_reading.proofs.Identified.{IsPlain}

pub record Addition : Type 0 where
  pub key : Text
  pub value : Option Text

abbrev pub additions : List KeyValue → List Addition
additions pairs =
    record { key = codes "x.doi"; value = first_under Doi pairs (codes "rft_id") }
    ∷ record { key = codes "x.pmid"; value = first_under Pmid pairs (codes "rft_id") }
    ∷ record { key = codes "x.oclc"; value = first_under Oclc pairs (codes "rft_id") }
    ∷ record { key = codes "x.issn"; value = first_number (issns_of pairs) }
    ∷ record { key = codes "x.eissn"; value = second_issn pairs }
    ∷ record { key = codes "x.isbn"; value = first_isbn pairs }
    ∷ record { key = codes "x.from"; value = option_map (λ days. days.first) (days_of pairs) }
    ∷ record { key = codes "x.to"; value = option_map (λ days. days.last) (days_of pairs) }
    ∷ record { key = codes "x.doi_encoded"; value = doi_encoded pairs }
    ∷ []

abbrev pub pairs_added : List Addition → List KeyValue
pairs_added list = flat_map (λ addition. added addition.key addition.value) list

nine : (a b c d e f g h i : List KeyValue)
    → a ++ b ++ c ++ d ++ e ++ f ++ g ++ h ++ i ≡ a ++ (b ++ (c ++ (d ++ (e ++ (f ++ (g ++ (h ++ (i ++ []))))))))
nine a b c d e f g h i = simp (append_assoc, append-nil)

pub derived-is : (pairs : List KeyValue) → derived pairs ≡ pairs_added (additions pairs)
derived-is pairs =
    nine (added (codes "x.doi") (first_under Doi pairs (codes "rft_id"))) (added (codes "x.pmid") (first_under Pmid pairs (codes "rft_id")))
    (added (codes "x.oclc") (first_under Oclc pairs (codes "rft_id"))) (added (codes "x.issn") (first_number (issns_of pairs)))
    (added (codes "x.eissn") (second_issn pairs)) (added (codes "x.isbn") (first_isbn pairs))
    (added (codes "x.from") (option_map (λ days. days.first) (days_of pairs))) (added (codes "x.to") (option_map (λ days. days.last) (days_of pairs)))
    (added (codes "x.doi_encoded") (doi_encoded pairs))

-- what holds of each value that is added
abbrev pub IsEach : (KeyValue → Type 0) → Addition → Type 0
IsEach P addition = (v : Text) → addition.value ≡ Some v → P (record { key = addition.key; value = v })

each_added : (P : KeyValue → Type 0) (key : Text) (value : Option Text) → ((v : Text) → value ≡ Some v → P (record { key = key; value = v }))
    → All P (added key value)
each_added P key None h = none_has P
each_added P key (Some v) h = one_has P (record { key = key; value = v }) (h v refl)

all_added : (P : KeyValue → Type 0) (list : List Addition) → All (IsEach P) list → All P (pairs_added list)
all_added P [] all = none_has P
all_added P (one ∷ list) all =
    All-append P (added one.key one.value) (pairs_added list) (each_added P one.key one.value (All-head (IsEach P) one list all))
    (all_added P list (All-tail (IsEach P) one list all))

pub all_derived : (P : KeyValue → Type 0) (pairs : List KeyValue) → All (IsEach P) (additions pairs) → All P (derived pairs)
all_derived P pairs all = All-same P (derived pairs) (pairs_added (additions pairs)) (derived-is pairs) (all_added P (additions pairs) all)

-- what holds of the first and the last day of a date
abbrev pub AreDaysAll : (Text → Type 0) → List KeyValue → Type 0
AreDaysAll P pairs = (date : Text) → date_under pairs (codes "rft.date") ≡ Some date → P (first_day date) × P (last_day date)

pub day_is : (P : Text → Type 0) (found : Option Text) (day : Days → Text) → ((date : Text) → found ≡ Some date → P (day (first_and_last date)))
    → IsAll P (option_map day (option_map first_and_last found))
day_is P None day h n e = cc
day_is P (Some date) day h n e = let same : day (first_and_last date) ≡ n = cc in subst P same (h date refl)

-- what holds of the values that are derived
pub derived_values : (P : Text → Type 0) (pairs : List KeyValue)
    → ((namespace : Namespace) → IsPlain namespace → IsAll P (first_under namespace pairs (codes "rft_id")))
    → IsAll P (first_number (issns_of pairs)) → IsAll P (second_issn pairs) → IsAll P (first_isbn pairs) → AreDaysAll P pairs
    → IsAll P (doi_encoded pairs)
    → All (λ pair. P pair.value) (derived pairs)
derived_values P pairs identifiers issn eissn isbn days encoded =
    let Q : KeyValue → Type 0 = λ pair. P pair.value in
    let date = date_under pairs (codes "rft.date") in
    All-append Q _ _
    (All-append Q _ _
    (All-append Q _ _
    (All-append Q _ _
    (All-append Q _ _
    (All-append Q _ _
    (All-append Q _ _
    (All-append Q _ _ (each_added Q (codes "x.doi") (first_under Doi pairs (codes "rft_id")) (identifiers Doi refl))
    (each_added Q (codes "x.pmid") (first_under Pmid pairs (codes "rft_id")) (identifiers Pmid refl)))
    (each_added Q (codes "x.oclc") (first_under Oclc pairs (codes "rft_id")) (identifiers Oclc refl)))
    (each_added Q (codes "x.issn") (first_number (issns_of pairs)) issn))
    (each_added Q (codes "x.eissn") (second_issn pairs) eissn))
    (each_added Q (codes "x.isbn") (first_isbn pairs) isbn))
    (each_added Q (codes "x.from") (option_map (λ days. days.first) (days_of pairs))
    (day_is P date (λ days. days.first) (λ d e. (days d e).0))))
    (each_added Q (codes "x.to") (option_map (λ days. days.last) (days_of pairs)) (day_is P date (λ days. days.last) (λ d e. (days d e).1))))
    (each_added Q (codes "x.doi_encoded") (doi_encoded pairs) encoded)
