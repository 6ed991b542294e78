-- How large the pairs are that the resolver adds.
use Rattle.std.proofs.Common.{◌≡◌, ℕ, ◌+◌, ◌≤◌, ◌*◌, [], ◌++◌, Bool, true, false, cond, Option, Some, None, refl, subst, length, arith}
use Rattle.std.specs.Prelude.{List, codes, option_and_then}
use Rattle.std.specs.List.{list_all}
use Rattle.std.specs.Option.{option_map}
use Rattle.std.proofs.lemmas.List.Sums.{sum_by-cons, sum_by-append}
use Rattle.text_model.specs.Texts.{Text}
use Rattle.text_model.specs.Writing.{written, written_u}
use Rattle.text_model.specs.declared.writing.Writing.{Writing}
use Rattle.text_model.specs.declared.writing.Writing.TheVariants.{U}
use Rattle.kev_read.specs.Pairs.{KeyValue}
use Rattle.work_identifiers.specs.declared.namespace.Namespace.{Namespace}
use Rattle.work_identifiers.specs.declared.namespace.Namespace.TheVariants.{Doi, Pmid, Oclc}
use Rattle.work_identifiers.specs.Forms.{IsIdentifier}
use Rattle.work_identifiers.specs.Uris.{uri_of, longest_uri}
use Rattle.openurl_reading.specs.Dates.{date_under}
use Rattle.openurl_reading.specs.EncodedDois.{is_of_path, encoded_doi}
use Rattle.openurl_reading.specs.Identifiers.{first_under}
use Rattle.openurl_reading.specs.Numbers.{first_number, first_isbn}
use Rattle.openurl_reading.specs.Reading.{added, issns_of, second_issn, days_of, doi_encoded, with_derived}
use Rattle.openurl_reading.proofs.Additions.{day_is}
use Rattle.openurl_reading.proofs.IdentifierForms.{identifier_short}
use Rattle.openurl_reading.proofs.Identified.{IsPlain, under_is, of_is}
use Rattle.openurl_reading.proofs.KeysWeigh.{AreLight, all_three}
use Rattle.openurl_reading.proofs.Totals.{total}

added_weighs : (g : Text → ℕ) (m : ℕ) (key : Text) (value : Option Text) → ((n : Text) → value ≡ Some n → g n ≤ m) → total g (added key value) ≤ m
added_weighs g m key None h = omega arith
added_weighs g m key (Some v) h = omega (arith, sum_by-cons (λ (p : KeyValue). g p.value) (record { key = key; value = v }) [], h v refl)

-- the greatest weight of an encoded DOI
abbrev pub AreEncodedLight : (Text → ℕ) → ℕ → Type 0
AreEncodedLight g x = (doi encoded : Text) → IsIdentifier Doi doi → encoded_doi doi ≡ Some encoded → g encoded ≤ x

-- a byte is encoded as three at most
abbrev pub AreTriples : Type 0
AreTriples = (w : Writing) (t : Text) → length (written w t) ≤ 3 * length t

pub encoded_short : ((namespace : Namespace) (n : Text) → IsIdentifier namespace n → length (uri_of namespace n) ≤ longest_uri namespace) → AreTriples
    → AreEncodedLight (λ n. length n) 1527
encoded_short short triples doi encoded is e = by_test (list_all is_of_path doi) e
  where
    by_test : (b : Bool) → cond b None (Some (written_u doi)) ≡ Some encoded → length encoded ≤ 1527
    by_test true e = cc
    by_test false e =
        let same : written_u doi ≡ encoded = cc in
        subst (λ t. length t ≤ 1527) same (omega (arith, triples U doi, identifier_short short Doi doi refl is))

pub derived_weigh : (g : Text → ℕ) (m x : ℕ) (u : Namespace → ℕ) → AreLight g m u → AreEncodedLight g x → (pairs : List KeyValue)
    → total g (with_derived pairs) ≤ 5 * m + x + all_three u + total g pairs
derived_weigh g m x u light small pairs =
    let w : KeyValue → ℕ = λ p. g p.value in
    let doi = added (codes "x.doi") (first_under Doi pairs (codes "rft_id")) in
    let pmid = added (codes "x.pmid") (first_under Pmid pairs (codes "rft_id")) in
    let oclc = added (codes "x.oclc") (first_under Oclc pairs (codes "rft_id")) in
    let issn = added (codes "x.issn") (first_number (issns_of pairs)) in
    let eissn = added (codes "x.eissn") (second_issn pairs) in
    let isbn = added (codes "x.isbn") (first_isbn pairs) in
    let date = date_under pairs (codes "rft.date") in
    let from = added (codes "x.from") (option_map (λ days. days.first) (days_of pairs)) in
    let to = added (codes "x.to") (option_map (λ days. days.last) (days_of pairs)) in
    let encoded = added (codes "x.doi_encoded") (doi_encoded pairs) in
    omega (
      arith,
      sum_by-append w (doi ++ pmid ++ oclc ++ issn ++ eissn ++ isbn ++ from ++ to ++ encoded) pairs,
      sum_by-append w (doi ++ pmid ++ oclc ++ issn ++ eissn ++ isbn ++ from ++ to) encoded,
      sum_by-append w (doi ++ pmid ++ oclc ++ issn ++ eissn ++ isbn ++ from) to,
      sum_by-append w (doi ++ pmid ++ oclc ++ issn ++ eissn ++ isbn) from,
      sum_by-append w (doi ++ pmid ++ oclc ++ issn ++ eissn) isbn,
      sum_by-append w (doi ++ pmid ++ oclc ++ issn) eissn,
      sum_by-append w (doi ++ pmid ++ oclc) issn,
      sum_by-append w (doi ++ pmid) oclc,
      sum_by-append w doi pmid,
      identifier_weighs (codes "x.doi") Doi refl,
      identifier_weighs (codes "x.pmid") Pmid refl,
      identifier_weighs (codes "x.oclc") Oclc refl,
      added_weighs g m (codes "x.issn") (first_number (issns_of pairs)) (light.found.one pairs),
      added_weighs g m (codes "x.eissn") (second_issn pairs) (light.found.other pairs),
      added_weighs g m (codes "x.isbn") (first_isbn pairs) (light.found.isbn pairs),
      added_weighs g m (codes "x.from") (option_map (λ days. days.first) (days_of pairs))
          (day_is (λ n. g n ≤ m) date (λ days. days.first) (λ d e. (light.days pairs d e).0)),
      added_weighs g m (codes "x.to") (option_map (λ days. days.last) (days_of pairs))
          (day_is (λ n. g n ≤ m) date (λ days. days.last) (λ d e. (light.days pairs d e).1)),
      added_weighs g x (codes "x.doi_encoded") (doi_encoded pairs) (encoded_weighs (first_under Doi pairs (codes "rft_id")) found),
    )
  where
    identifier_weighs : (key : Text) (namespace : Namespace) → IsPlain namespace
        → total g (added key (first_under namespace pairs (codes "rft_id"))) ≤ u namespace
    identifier_weighs key namespace plain =
        added_weighs g (u namespace) key (first_under namespace pairs (codes "rft_id"))
        (λ n e. light.identifier namespace n plain (under_is (IsIdentifier namespace) namespace (of_is light.identified namespace) pairs (codes "rft_id") n e))

    found : (n : Text) → first_under Doi pairs (codes "rft_id") ≡ Some n → IsIdentifier Doi n
    found n e = under_is (IsIdentifier Doi) Doi (of_is light.identified Doi) pairs (codes "rft_id") n e

    encoded_weighs : (doi : Option Text) → ((n : Text) → doi ≡ Some n → IsIdentifier Doi n)
        → (n : Text) → option_and_then encoded_doi doi ≡ Some n → g n ≤ x
    encoded_weighs None h n e = cc
    encoded_weighs (Some doi) h n e = small doi n (h doi refl) e
